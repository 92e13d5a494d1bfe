use Rattle.rules.proofs.Shapes.{shape}
use Rattle.rules.proofs.RunningLaws.{run_sizes}
use Rattle.rules.proofs.theorems.total_is_the_sources_added.Goals as goal

pub returns : goal.returns
returns c = λ most s asked shaped whole. run_sizes most s asked (shape s shaped) whole
