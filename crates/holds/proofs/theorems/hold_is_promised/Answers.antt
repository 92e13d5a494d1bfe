use Rattle.holds.proofs.Promised.{hold_promised}
use Rattle.holds.proofs.theorems.hold_is_promised.Goals as goal

pub returns : goal.returns
returns c = hold_promised
