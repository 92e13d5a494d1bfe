use Rattle.std.proofs.Common.{rules}
use Rattle.tables.proofs.HeldLaws.{plain-allowed}
use Rattle.tables.proofs.fields.content.Goals as goal

pub returns-in_default-clause-allowed : goal.returns-in_default-clause-allowed
returns-in_default-clause-allowed c = search (rules, plain-allowed)
