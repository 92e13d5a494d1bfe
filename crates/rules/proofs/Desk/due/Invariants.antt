use Rattle.std.proofs.Common.{◌≡◌}
use Rattle.sets.specs.Sets.{insert_all}
use Rattle.rules.specs.Rules.{due}
use Rattle.rules.proofs.Desk.due.Given as goal

abbrev pub invariant-loop-e : goal.invariant-loop-e
invariant-loop-e l = l.due ≡ insert_all (due l.settings l.self) 0 l.e
