use Rattle.agreement.proofs.AfterLaws.{settings_after}
use Rattle.agreement.proofs.settings_stay.Goals as goal

pub returns : goal.returns
returns c = settings_after
