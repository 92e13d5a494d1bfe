use Rattle.std.proofs.Common.{◌≡◌, ◌∙◌, true, false, length, sym, arith, rules}
use Rattle.holds.proofs.PrintLaws.{few_entries, may_last}
use Rattle.holds.proofs.Hold.may_print.Goals as goal

pub listed : goal.listed
listed c =
    let few = few_entries c.args.self.now c.args.area.now (sym c.in_shape.ensures ∙ c.if-not-in_shape.false) in
    let many : length c.args.self.now.stickers ≡ 64 = search rules in
    omega (arith, few, many, c.if-entry-self.false)

pub bounds-self-entry-inside : goal.bounds-self-entry-inside
bounds-self-entry-inside c =
    let few = few_entries c.args.self.now c.args.area.now (sym c.in_shape.ensures ∙ c.if-not-in_shape.false) in
    omega (arith, few, c.if-entry-self.false)

pub returns-then-sticker : goal.returns-then-sticker
returns-then-sticker c =
    sym
    (may_last c.args.self.now c.args.area.now c.args.entry c.if-area-ne-MOST_NOTES.false (sym c.in_shape.ensures ∙ c.if-not-in_shape.false)
    (sym c.noted_in_shape.ensures ∙ c.if-not-noted_in_shape.false) (omega (arith, c.entry.view_is, c.if-entry-self.false)) (search rules) c.entry.inside.0 c.entry.view_is
    c.index-self-entry.result (sym c.wait_is_over.ensures ∙ c.if-not-wait_is_over.false) true
    c.if-sticker.true)

pub returns : goal.returns
returns c =
    sym
    (may_last c.args.self.now c.args.area.now c.args.entry c.if-area-ne-MOST_NOTES.false (sym c.in_shape.ensures ∙ c.if-not-in_shape.false)
    (sym c.noted_in_shape.ensures ∙ c.if-not-noted_in_shape.false) (omega (arith, c.entry.view_is, c.if-entry-self.false)) (search rules) c.entry.inside.0 c.entry.view_is
    c.index-self-entry.result (sym c.wait_is_over.ensures ∙ c.if-not-wait_is_over.false) false
    c.if-sticker.false)
