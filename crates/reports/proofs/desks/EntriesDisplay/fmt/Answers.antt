use Rattle.std.proofs.Common.{rules, arith}
use Rattle.std.proofs.Output.{has_written_of_eq}
use Rattle.reports.proofs.LineLaws.{all_told}
use Rattle.reports.proofs.desks.EntriesDisplay.fmt.Goals as goal

pub returns-clause-writes : goal.returns-clause-writes
returns-clause-writes g c plain ok =
    has_written_of_eq _ _ _ _ _ (all_told c.args.self.now.0 c.loop-e.e-counter (omega arith) (search rules)) (c.loop-e.invariant plain)
