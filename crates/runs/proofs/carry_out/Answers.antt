use Rattle.std.proofs.Common.{◌≡◌, ◌∙◌, Bool, true, false, refl, sym, arith}
use Rattle.sets.specs.Counting.{bit}
use Rattle.sets.proofs.CountLaws.{bit_le}
use mir.Val.{bool_byte}
use Rattle.runs.proofs.RunLaws.{left_next, left_stop}
use Rattle.runs.proofs.carry_out.Goals as goal

byte_bit : (b : Bool) → bool_byte b ≡ bit b
byte_bit true = refl
byte_bit false = refl

pub loop-k-preserved : goal.loop-k-preserved
loop-k-preserved c =
    let new : c.from-new_sources.result ≡ bit c.in-Ok.told.new = c.from-new_sources.ensures ∙ byte_bit c.in-Ok.told.new in
    record {
      shape = c.in-Ok.ensures.shape;
      few = omega (arith, c.loop-k.invariant.few, new, bit_le c.in-Ok.told.new);
      left = c.loop-k.invariant.left
          ∙ left_next c.args.sequence.now c.loop-k.k c.args.end c.loop-k-test.true c.loop-k.new_sources c.loop-k.floor c.loop-k.area c.in-Ok.told c.in-Ok.ensures.answer
          _ _ _ (omega (arith, new)) c.in-Ok.ensures.floor c.in-Ok.ensures.area;
      kept = λ z. absurd (omega (arith, z));
      grown = omega (arith, c.loop-k.invariant.grown, c.in-Ok.ensures.grown, new);
    }

pub returns-in-Err-clause-went : goal.returns-in-Err-clause-went
returns-in-Err-clause-went c =
    rw (c.in-Err.ensures.kept.0, c.in-Err.ensures.kept.1)
    (sym (c.loop-k.invariant.left ∙ left_stop c.args.sequence.now c.loop-k.k c.args.end c.loop-k-test.true c.loop-k.new_sources c.loop-k.floor c.loop-k.area c.in-Err.refusal c.in-Err.ensures.answer))
