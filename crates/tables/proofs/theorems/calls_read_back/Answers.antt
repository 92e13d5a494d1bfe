use Rattle.tables.proofs.RoundTrip.{calls_back}
use Rattle.tables.proofs.theorems.calls_read_back.Goals as goal

pub returns : goal.returns
returns c = calls_back
