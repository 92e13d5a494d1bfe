-- `sets::Set::union` meets its contract. Assumes nothing.
use lib.Bits.{or_lt}
use Rattle.sets.proofs.Set.union.Goals as goal

pub of_digits-requires : goal.of_digits-requires
of_digits-requires g c = or_lt g.W.Digits.WIDTH _ _ c.digits.ensures.fits c.digits-2.ensures.fits
