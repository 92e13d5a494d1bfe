use Rattle.runs.proofs.WaitLaws.{wait_of_whole}
use Rattle.runs.proofs.theorems.wait_holds_of_whole.Goals as goal

pub returns : goal.returns
returns c = wait_of_whole
