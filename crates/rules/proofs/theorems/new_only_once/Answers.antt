use Rattle.rules.proofs.Shapes.{limits}
use Rattle.rules.proofs.NewSources.{new_once}
use Rattle.rules.specs.declared.Action.TheVariants.{Receive}
use Rattle.rules.specs.Rules.{next}
use Rattle.rules.specs.Running.{after}
use Rattle.rules.proofs.RunningLaws.{kept_after}
use Rattle.rules.proofs.theorems.new_only_once.Goals as goal

pub returns : goal.returns
returns c = λ s whole within j i e z actions.
    new_once s whole (limits s.settings within) j i e z (after (next s (Receive j i e)) actions) (kept_after (next s (Receive j i e)) actions)
