use Rattle.rules.specs.Rules.{fresh}
use Rattle.rules.proofs.Shapes.{shape_in_shape}
use Rattle.rules.proofs.ShapeKept.{fresh_shape}
use Rattle.rules.proofs.theorems.fresh_is_in_shape.Goals as goal

pub returns : goal.returns
returns c = λ k limits. shape_in_shape (fresh k) (fresh_shape k limits)
