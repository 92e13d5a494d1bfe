use Rattle.rules.proofs.Shapes.{limits}
use Rattle.rules.proofs.NewSources.{next_sizes}
use Rattle.rules.proofs.theorems.one_source_for_each_new.Goals as goal

pub returns : goal.returns
returns c = λ s whole within. next_sizes s whole (limits s.settings within)
