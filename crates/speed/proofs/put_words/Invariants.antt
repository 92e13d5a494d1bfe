use Rattle.std.proofs.Common.{◌≡◌, ◌++◌, take, drop}
use Rattle.speed.proofs.put_words.Given as goal

abbrev pub invariant-loop-e : goal.invariant-loop-e
invariant-loop-e l = l.row ≡ take l.e l.sets ++ drop l.e l.initial.row
