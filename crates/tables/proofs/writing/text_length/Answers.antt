use Rattle.std.proofs.Common.{ap, ◌∙◌, [], ◌∷◌, length, length-append, arith}
use Rattle.records.specs.declared.Record.{Record}
use Rattle.records.specs.Records.{fields_of}
use Rattle.tables.specs.Tables.{row_text}
use Rattle.tables.proofs.WriteLaws.{left-record, left-some, left-next, rows_to-more, text_past}
use Rattle.tables.proofs.writing.text_length.Goals as goal

pub returns-then-room-length : goal.returns-then-room-length
returns-then-room-length c =
    let so = c.loop-bytes.invariant in
    let steps = c.in-Some.ensures.steps in
    let sixteen = steps.1.1 ∙ so.size in
    let is = c.from_bytes.ensures.is ∙ ap fields_of (left-record so.left c.in-Some.bytes.now _ steps.1.0 sixteen) in
    text_past c.args.sequence.now c.args.room (length c.loop-bytes.yielded) so.long (c.row_length-row.ensures ∙ ap (λ (r : Record). length (row_text r)) is)
    (left-some so.left c.in-Some.bytes.now _ steps.1.0 sixteen) (omega arith) so.within

pub loop-bytes-preserved : goal.loop-bytes-preserved
loop-bytes-preserved c =
    let so = c.loop-bytes.invariant in
    let steps = c.in-Some.ensures.steps in
    let sixteen = steps.1.1 ∙ so.size in
    let is = c.from_bytes.ensures.is ∙ ap fields_of (left-record so.left c.in-Some.bytes.now _ steps.1.0 sixteen) in
    let row = c.row_length-row.ensures ∙ ap (λ (r : Record). length (row_text r)) is in
    rw (length-append c.loop-bytes.yielded (c.in-Some.bytes ∷ []))
    (record {
      size = steps.0 ∙ so.size;
      left = left-next so.left c.in-Some.bytes.now _ steps.1.0 sixteen;
      long = omega (arith, so.long, row, rows_to-more c.args.sequence.now (length c.loop-bytes.yielded));
      within = omega arith;
    })
