use Rattle.holds.proofs.Promised.{noted_stays}
use Rattle.holds.proofs.theorems.noted_clock_stays.Goals as goal

pub returns : goal.returns
returns c = noted_stays
