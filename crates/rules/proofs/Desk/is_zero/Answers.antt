use Rattle.std.proofs.Common.{rules}
use Rattle.rules.proofs.Shapes.{zero_is}
use Rattle.rules.proofs.Desk.is_zero.Goals as goal

pub returns-then-not-self : goal.returns-then-not-self
returns-then-not-self c = rw (zero_is c.args.self.now) (search rules)

pub returns-else-not-self : goal.returns-else-not-self
returns-else-not-self c = rw (zero_is c.args.self.now) (search rules)
