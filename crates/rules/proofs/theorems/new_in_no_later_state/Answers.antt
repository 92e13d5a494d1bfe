use Rattle.rules.proofs.Shapes.{limits}
use Rattle.rules.proofs.NewSources.{new_once}
use Rattle.rules.proofs.theorems.new_in_no_later_state.Goals as goal

pub returns : goal.returns
returns c = λ s whole within. new_once s whole (limits s.settings within)
