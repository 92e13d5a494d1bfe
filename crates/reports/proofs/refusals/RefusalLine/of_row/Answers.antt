use Rattle.std.proofs.Common.{arith}
use Rattle.reports.proofs.LengthLaws.{row_line_most}
use Rattle.reports.proofs.refusals.RefusalLine.of_row.Goals as goal

pub returns-clause-short : goal.returns-clause-short
returns-clause-short c = row_line_most c.args.refusal c.args.row c.args.reason.now (omega arith)
