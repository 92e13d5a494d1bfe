use Rattle.std.proofs.Common.{◌∙◌, ap}
use Rattle.records.specs.Records.{fields_of}
use Rattle.tables.proofs.WriteLaws.{before-count, before-record, before-next, text_room, text_start, text_put}
use Rattle.tables.proofs.writing.put_text.Goals as goal

pub put_row-end-requires-clause-before : goal.put_row-end-requires-clause-before
put_row-end-requires-clause-before c =
    let so = c.loop-bytes.invariant in
    let steps = c.in-Some.ensures.steps in
    let sixteen = steps.2.2 ∙ so.size in
    let few = rw so.size at steps.2.3 in
    let is = c.from_bytes.ensures.is ∙ ap fields_of (before-record so.left c.in-Some.bytes.now _ steps.2.0 steps.2.1 sixteen few) in
    text_room c.args.sequence.now _ (before-count so.left c.in-Some.bytes.now _ steps.2.0 steps.2.1 sixteen few) is so.end

pub loop-bytes-preserved : goal.loop-bytes-preserved
loop-bytes-preserved c =
    let so = c.loop-bytes.invariant in
    let steps = c.in-Some.ensures.steps in
    let sixteen = steps.2.2 ∙ so.size in
    let few = rw so.size at steps.2.3 in
    let count = before-count so.left c.in-Some.bytes.now _ steps.2.0 steps.2.1 sixteen few in
    let is = c.from_bytes.ensures.is ∙ ap fields_of (before-record so.left c.in-Some.bytes.now _ steps.2.0 steps.2.1 sixteen few) in
    record {
      size = steps.0 ∙ so.size;
      left = before-next so.left c.in-Some.bytes.now _ steps.2.0 steps.2.1 sixteen few;
      end = text_start c.args.sequence.now _ count is c.put_row-end.ensures.start so.end;
      put = text_put c.args.sequence.now _ count is _ c.put_row-end.ensures.written so.put;
    }
