use Rattle.floors.proofs.Shapes.{opened_in_shape}
use Rattle.floors.proofs.theorems.opened_is_in_shape.Goals as goal

pub returns : goal.returns
returns c = opened_in_shape
