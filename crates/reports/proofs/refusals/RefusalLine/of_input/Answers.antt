use Rattle.reports.proofs.LengthLaws.{input_line_most}
use Rattle.reports.proofs.refusals.RefusalLine.of_input.Goals as goal

pub returns-clause-short : goal.returns-clause-short
returns-clause-short c = input_line_most c.args.refusal c.args.reason.now
