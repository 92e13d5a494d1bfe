use Rattle.std.proofs.Common.{◌≡◌, true}
use Rattle.rules.specs.Rules.{every_below}
use Rattle.holds.specs.Holds.{entry_in_shape}
use Rattle.holds.proofs.Hold.noted_in_shape.Given as goal

abbrev pub invariant-loop-e : goal.invariant-loop-e
invariant-loop-e l = every_below (entry_in_shape l.self) l.e ≡ true
