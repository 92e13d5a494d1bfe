use Rattle.agreement.proofs.AfterLaws.{clock_is_delays}
use Rattle.agreement.proofs.clock_is_the_delays.Goals as goal

pub returns : goal.returns
returns c = clock_is_delays
