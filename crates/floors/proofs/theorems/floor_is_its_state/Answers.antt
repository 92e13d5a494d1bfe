use Rattle.floors.proofs.Shapes.{floor_same}
use Rattle.floors.proofs.theorems.floor_is_its_state.Goals as goal

pub returns : goal.returns
returns c = floor_same
