use Rattle.agreement.proofs.Cases.{stories}
use Rattle.agreement.proofs.stories_end.Goals as goal

pub returns : goal.returns
returns c = stories
