use Rattle.std.proofs.Common.{◌≡◌, take}
use Rattle.std.specs.List.{list_all}
use Rattle.sets.specs.Sets.{all_below}
use Rattle.rules.proofs.desks.all_below.Given as goal

abbrev pub invariant-loop-set : goal.invariant-loop-set
invariant-loop-set l = all_below l.n l.members ≡ list_all (all_below l.n) (take l.set-index l.sets)
