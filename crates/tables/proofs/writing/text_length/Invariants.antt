use Rattle.std.proofs.Common.{◌≡◌, ◌≤◌, length}
use Rattle.std.specs.Slice.Iter.{chunks_exact_rest, chunks_exact_size}
use Rattle.tables.specs.Tables.{rows_to}
use Rattle.tables.proofs.WriteLaws.{RecordsLeft}
use Rattle.tables.proofs.writing.text_length.Given as goal

abbrev pub invariant-loop-bytes : goal.invariant-loop-bytes
invariant-loop-bytes l =
    record {
      size : chunks_exact_size l.bytes-iterator ≡ 16;
      left : RecordsLeft l.sequence (length l.yielded) (chunks_exact_rest l.bytes-iterator);
      long : l.length ≡ length (rows_to l.sequence (length l.yielded));
      within : l.length ≤ l.room;
    }
