use Rattle.tables.proofs.RoundTrip.{given_sequence}
use Rattle.tables.proofs.theorems.read_is_a_sequence.Goals as goal

pub returns : goal.returns
returns c = given_sequence
