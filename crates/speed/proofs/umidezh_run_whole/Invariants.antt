use Rattle.std.proofs.Common.{◌≡◌}
use Rattle.speed.proofs.ColumnLaws.{so_far}
use Rattle.speed.proofs.umidezh_run_whole.Given as goal

-- the desks that were gone through have their place in each column
abbrev pub invariant-loop-i : goal.invariant-loop-i
invariant-loop-i l = l.report ≡ so_far l.initial.report l.desks l.i
