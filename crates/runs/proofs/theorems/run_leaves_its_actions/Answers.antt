use Rattle.runs.proofs.WaitLaws.{run_of_leads}
use Rattle.runs.proofs.theorems.run_leaves_its_actions.Goals as goal

pub returns : goal.returns
returns c = run_of_leads
