use Rattle.tables.proofs.RoundTrip.{written_back, read_sequence}
use Rattle.tables.proofs.theorems.read_again.Goals as goal

pub returns : goal.returns
returns c = λ text records e. written_back records (read_sequence text records e)
