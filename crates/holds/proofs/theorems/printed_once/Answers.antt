use Rattle.holds.proofs.PrintedOnce.{printed_once}
use Rattle.holds.proofs.theorems.printed_once.Goals as goal

pub returns : goal.returns
returns c = λ area r steps e. printed_once e area r steps
