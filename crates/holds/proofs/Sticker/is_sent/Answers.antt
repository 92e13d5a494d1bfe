use Rattle.std.proofs.Common.{sym, arith, rules}
use Rattle.holds.proofs.StickerLaws.{marked_all, marked_one}
use Rattle.holds.proofs.Sticker.is_sent.Goals as goal

pub returns-then-not-has : goal.returns-then-not-has
returns-then-not-has c = sym (marked_one _ _ _ (search rules) c.loop-i.i (omega arith) c.desk-item.result c.desk-item.is (grind arith) (grind arith))

pub returns : goal.returns
returns c = sym (marked_all _ _ _ c.loop-i.i (omega arith) (omega arith) c.loop-i.invariant)
