use Rattle.std.proofs.Common.{rules}
use Rattle.tables.proofs.WriteLaws.{row_short}
use Rattle.tables.proofs.writing.row_length.Goals as goal

pub put_row-requires-clause-before : goal.put_row-requires-clause-before
put_row-requires-clause-before c = search (rules, row_short)
