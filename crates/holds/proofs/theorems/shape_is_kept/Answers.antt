use Rattle.holds.proofs.PrintLaws.{stepped_fit}
use Rattle.holds.proofs.theorems.shape_is_kept.Goals as goal

pub returns : goal.returns
returns c = stepped_fit
