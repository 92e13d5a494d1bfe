use Rattle.std.proofs.Common.{◌≡◌, ◌+◌, ◌≤◌, length}
use Rattle.tables.specs.Rows.{rows_of}
use Rattle.tables.specs.Reader.{rows_left}
use Rattle.tables.specs.Tables.{count_from}
use Rattle.tables.proofs.reading.count_rows.Given as goal

abbrev pub invariant-loop-answer : goal.invariant-loop-answer
invariant-loop-answer l =
    record {
      counted : count_from l.count (rows_left l.answer-iterator) ≡ count_from 0 (rows_of l.text);
      few : l.count + length (rows_left l.answer-iterator) ≤ length l.text;
    }

abbrev pub decreases-loop-answer : goal.decreases-loop-answer
decreases-loop-answer l = length (rows_left l.answer-iterator)
