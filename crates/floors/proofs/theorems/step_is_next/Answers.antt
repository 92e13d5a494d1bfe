use Rattle.rules.specs.Rules.{next}
use Rattle.floors.specs.Floors.{state_of}
use Rattle.floors.proofs.Shapes.{state_laid}
use Rattle.floors.proofs.theorems.step_is_next.Goals as goal

pub returns : goal.returns
returns c = λ fl area m. state_laid (next (state_of fl area) m) fl.waiting area
