use Rattle.floors.proofs.Shapes.{step_in_shape}
use Rattle.floors.proofs.theorems.shape_is_kept.Goals as goal

pub returns : goal.returns
returns c = step_in_shape
