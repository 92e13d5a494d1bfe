use Rattle.std.proofs.Common.{◌≡◌, length}
use Rattle.tables.specs.Fields.{held_of}
use Rattle.tables.proofs.fields.after_held.Given as goal

abbrev pub invariant-loop-rest : goal.invariant-loop-rest
invariant-loop-rest l = (held_of l.quoted l.rest).after ≡ (held_of l.quoted l.text).after

abbrev pub decreases-loop-rest : goal.decreases-loop-rest
decreases-loop-rest l = length l.rest
