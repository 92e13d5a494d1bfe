use Rattle.holds.proofs.SequenceLaws.{whole_promised}
use Rattle.holds.proofs.theorems.whole_is_promised.Goals as goal

pub returns : goal.returns
returns c = whole_promised
