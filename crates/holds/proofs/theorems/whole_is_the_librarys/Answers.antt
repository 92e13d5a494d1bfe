use Rattle.holds.proofs.SequenceLaws.{whole_seen}
use Rattle.holds.proofs.theorems.whole_is_the_librarys.Goals as goal

pub returns : goal.returns
returns c = whole_seen
