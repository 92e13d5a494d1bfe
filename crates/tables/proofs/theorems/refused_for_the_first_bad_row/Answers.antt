use Rattle.tables.proofs.RoundTrip.{first_bad}
use Rattle.tables.proofs.theorems.refused_for_the_first_bad_row.Goals as goal

pub returns : goal.returns
returns c = first_bad
