use Rattle.std.proofs.Common.{◌-◌, length}
use Rattle.tables.proofs.NextLaws.{ReadTo}
use Rattle.tables.proofs.rows.row_at.Given as goal

abbrev pub invariant-loop-numbers : goal.invariant-loop-numbers
invariant-loop-numbers l = ReadTo l.text l.place (record { numbers = l.numbers; count = l.count }) l.at

abbrev pub decreases-loop-numbers : goal.decreases-loop-numbers
decreases-loop-numbers l = length l.text - l.at
