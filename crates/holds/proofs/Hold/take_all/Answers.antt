use Rattle.std.proofs.Common.{◌∙◌, sym}
use Rattle.holds.proofs.TakeLaws.{left_none, left_next, left_stop}
use Rattle.holds.proofs.Hold.take_all.Goals as goal

pub returns-in-Err : goal.returns-in-Err
returns-in-Err c =
    sym (c.loop-k.invariant ∙ left_stop c.args.sequence.now c.loop-k.k c.loop-k-test.true c.loop-k.self c.loop-k.area c.from_bytes-fields.result c.from_bytes-fields.ensures.is
    c.in-Err.refusal c.in-Err.ensures.answer c.take.new.self c.take.new.area c.in-Err.ensures.floor c.in-Err.ensures.stickers c.in-Err.ensures.area)

pub loop-k-preserved : goal.loop-k-preserved
loop-k-preserved c =
    c.loop-k.invariant ∙ left_next c.args.sequence.now c.loop-k.k c.loop-k-test.true c.loop-k.self c.loop-k.area c.from_bytes-fields.result c.from_bytes-fields.ensures.is
    c.in_default.field-0 c.in_default.ensures.answer c.take.new.self c.take.new.area c.in_default.ensures.floor c.in_default.ensures.stickers c.in_default.ensures.area

pub returns : goal.returns
returns c = sym (c.loop-k.invariant ∙ left_none c.args.sequence.now c.loop-k.k c.loop-k.self c.loop-k.area c.loop-k.auto.k-end c.loop-k-test.false)
