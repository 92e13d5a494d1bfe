use Rattle.runs.proofs.WaitLaws.{whole_is_rules}
use Rattle.runs.proofs.theorems.whole_is_the_rules_run.Goals as goal

pub returns : goal.returns
returns c = whole_is_rules
