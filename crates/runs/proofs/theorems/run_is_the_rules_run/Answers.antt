use Rattle.runs.proofs.WaitLaws.{run_of_is_rules}
use Rattle.runs.proofs.theorems.run_is_the_rules_run.Goals as goal

pub returns : goal.returns
returns c = run_of_is_rules
