use Rattle.agreement.proofs.Edges.{eleven}
use Rattle.agreement.proofs.eleven_is_enough.Goals as goal

pub returns : goal.returns
returns c = eleven
