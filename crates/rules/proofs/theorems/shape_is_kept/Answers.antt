use Rattle.rules.proofs.ShapeKept.{next_shape}
use Rattle.rules.proofs.theorems.shape_is_kept.Goals as goal

pub returns : goal.returns
returns c = next_shape
