use Rattle.holds.proofs.ActionLaws.{refused_same}
use Rattle.holds.proofs.theorems.refused_changes_nothing.Goals as goal

pub returns : goal.returns
returns c = refused_same
