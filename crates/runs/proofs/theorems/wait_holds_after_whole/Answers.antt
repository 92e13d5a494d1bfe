use Rattle.runs.proofs.WaitLaws.{wait_after_whole}
use Rattle.runs.proofs.theorems.wait_holds_after_whole.Goals as goal

pub returns : goal.returns
returns c = wait_after_whole
