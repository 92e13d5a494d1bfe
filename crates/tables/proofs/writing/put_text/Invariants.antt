use Rattle.std.proofs.Common.{◌≡◌, ◌/◌, ◌++◌, length, drop}
use Rattle.std.specs.Iterator.Adapters.{rev_source}
use Rattle.std.specs.Slice.Iter.{chunks_exact_rest, chunks_exact_size}
use Rattle.tables.specs.Tables.{rows_to, text_of}
use Rattle.tables.proofs.WriteLaws.{RecordsBefore}
use Rattle.tables.proofs.writing.put_text.Given as goal

abbrev pub invariant-loop-bytes : goal.invariant-loop-bytes
invariant-loop-bytes l =
    record {
      size : chunks_exact_size (rev_source l.bytes-iterator) ≡ 16;
      left : RecordsBefore l.sequence (chunks_exact_rest (rev_source l.bytes-iterator));
      end : l.end ≡ length (rows_to l.sequence (length (chunks_exact_rest (rev_source l.bytes-iterator)) / 16));
      put : rows_to l.sequence (length (chunks_exact_rest (rev_source l.bytes-iterator)) / 16) ++ drop l.end l.place ≡ text_of l.sequence ++ drop l.long l.initial.place;
    }
