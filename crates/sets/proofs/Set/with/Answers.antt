-- `sets::Set::with` meets its contract: with a member below the width put in, the word still has its digits. Assumes nothing.
use mathlib.Core.Path.{sym, ◌∙◌}
use borrow.Author.Rules.{rules}
use Rattle.sets.proofs.MemberLaws.{insert_lt, insert_below_low, insert_below_high}
use Rattle.sets.proofs.Set.with.Goals as goal

pub of_digits-requires : goal.of_digits-requires
of_digits-requires g c = rw c.with_digit.ensures (insert_lt g.W.Digits.WIDTH _ _ c.digits.ensures.fits (search rules))

pub returns-then-i-WIDTH : goal.returns-then-i-WIDTH
returns-then-i-WIDTH g c =
    rw (← c.self.view_is, ← c.digits.ensures.same, ← c.number-i.ensures) (c.of_digits.ensures ∙ c.with_digit.ensures ∙ sym (insert_below_low g.W.Digits.WIDTH _ _ (search rules)))

pub returns-else-i-WIDTH : goal.returns-else-i-WIDTH
returns-else-i-WIDTH g c = c.self.view_is ∙ rw (← c.number-i.ensures) (sym (insert_below_high g.W.Digits.WIDTH _ _ (search rules)))
