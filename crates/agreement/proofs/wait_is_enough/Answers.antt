use Rattle.agreement.proofs.WaitIsEnough.{wait_is_enough}
use Rattle.agreement.proofs.wait_is_enough.Goals as goal

pub returns : goal.returns
returns c = wait_is_enough
