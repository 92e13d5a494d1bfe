use Rattle.tables.proofs.RoundTrip.{written_back}
use Rattle.tables.proofs.theorems.written_is_read_back.Goals as goal

pub returns : goal.returns
returns c = written_back
