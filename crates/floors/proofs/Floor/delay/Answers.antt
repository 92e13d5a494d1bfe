use Rattle.std.proofs.Common.{arith, rules}
use Rattle.std.proofs.lemmas.Grind.{common_steps}
use Rattle.rules.specs.Rules.{no_desk}
use Rattle.floors.specs.Floors.{may_go_on}
use Rattle.floors.proofs.DeskLists.{every_place}
use Rattle.floors.proofs.Floor.delay.Goals as goal

pub returns-then-not-all_may_go_on-clause-answer : goal.returns-then-not-all_may_go_on-clause-answer
returns-then-not-all_may_go_on-clause-answer c =
    rw (every_place (may_go_on c.args.self.now.settings c.args.ticks) c.args.self.now.desks no_desk c.args.self.now.settings.desks c.used.ensures.all) (search rules)

pub returns-then-not-all_may_go_on-clause-floor : goal.returns-then-not-all_may_go_on-clause-floor
returns-then-not-all_may_go_on-clause-floor c =
    rw (every_place (may_go_on c.args.self.now.settings c.args.ticks) c.args.self.now.desks no_desk c.args.self.now.settings.desks c.used.ensures.all) (grind (arith, common_steps))

pub returns-clause-answer : goal.returns-clause-answer
returns-clause-answer c =
    rw (every_place (may_go_on c.args.self.now.settings c.args.ticks) c.args.self.now.desks no_desk c.args.self.now.settings.desks c.used.ensures.all) (search rules)

pub returns-clause-floor : goal.returns-clause-floor
returns-clause-floor c =
    rw (every_place (may_go_on c.args.self.now.settings c.args.ticks) c.args.self.now.desks no_desk c.args.self.now.settings.desks c.used.ensures.all) (grind (arith, common_steps))
