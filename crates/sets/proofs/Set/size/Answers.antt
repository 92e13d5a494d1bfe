-- `sets::Set::size` meets its contract: the word has no digit past its width. Assumes nothing.
use mathlib.Core.Path.{◌∙◌}
use Rattle.sets.proofs.SizeLaws.{size_in}
use Rattle.sets.proofs.Set.size.Goals as goal

pub returns : goal.returns
returns g c = rw (← c.self.view_is, ← c.digits.ensures.same) (c.count_digits.ensures ∙ size_in 64 g.W.Digits.WIDTH _ g.W.Digits.narrow c.digits.ensures.fits)
