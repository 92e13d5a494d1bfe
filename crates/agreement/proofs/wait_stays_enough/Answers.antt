use Rattle.agreement.proofs.WaitIsEnough.{in_every_later_state}
use Rattle.agreement.proofs.wait_stays_enough.Goals as goal

pub returns : goal.returns
returns c = in_every_later_state
