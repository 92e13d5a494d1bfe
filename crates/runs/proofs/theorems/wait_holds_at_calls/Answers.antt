use Rattle.runs.proofs.WaitLaws.{wait_at_calls}
use Rattle.runs.proofs.theorems.wait_holds_at_calls.Goals as goal

pub returns : goal.returns
returns c = wait_at_calls
