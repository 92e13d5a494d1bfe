use Rattle.std.proofs.Common.{◌≡◌, ◌<◌, ◌∙◌, length, arith}
use Rattle.speed.proofs.ColumnLaws.{copied_more, copied_all}
use Rattle.speed.proofs.put_words.Goals as goal

pub loop-e-preserved : goal.loop-e-preserved
loop-e-preserved c =
    let long : length c.args.sets.now ≡ 64 = omega arith in
    let wide : length c.args.row.now ≡ 64 = omega arith in
    let more : c.loop-e.e < 64 = omega (arith, long, c.loop-e-test.true) in
    rw c.loop-e.invariant (copied_more c.args.sets.now c.args.row.now c.loop-e.e c.set.inside.0 c.index-sets-e.result c.loop-e-test.true (omega (arith, wide, more)) (c.set.view_is ∙ c.index-sets-e.is))

pub returns : goal.returns
returns c =
    let long : length c.args.sets.now ≡ 64 = omega arith in
    let wide : length c.args.row.now ≡ 64 = omega arith in
    copied_all c.args.sets.now c.args.row.now c.loop-e.row c.loop-e.e 64 long wide c.loop-e.auto.e-end c.loop-e-test.false c.loop-e.invariant
