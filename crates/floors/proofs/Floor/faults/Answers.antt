use Rattle.std.proofs.Common.{rules}
use Rattle.rules.specs.declared.Desk.{Desk}
use Rattle.rules.specs.Rules.{no_desk}
use Rattle.floors.proofs.DeskLists.{count_places}
use Rattle.floors.proofs.Floor.faults.Goals as goal

pub returns : goal.returns
returns c =
    λ area.
    rw (count_places (λ (d : Desk). d.faulty) c.args.self.now.desks no_desk c.args.self.now.settings.desks c.used.ensures.all) (search rules)
