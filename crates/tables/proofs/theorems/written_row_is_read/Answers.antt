use Rattle.tables.proofs.WrittenLaws.{row_back}
use Rattle.tables.proofs.theorems.written_row_is_read.Goals as goal

pub returns : goal.returns
returns c = row_back
