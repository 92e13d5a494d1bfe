use Rattle.std.proofs.Common.{get_or, take, arith}
use Rattle.std.proofs.lemmas.List.Edits.{map_over_more}
use Rattle.rules.specs.Rules.{later}
use Rattle.floors.proofs.DeskLists.{next_fits}
use Rattle.floors.proofs.Floor.go_on.Goals as goal

pub go_on-requires-clause-pass_on : goal.go_on-requires-clause-pass_on
go_on-requires-clause-pass_on c =
    (next_fits c.args.self.now.settings c.args.ticks c.loop-desk.desk-index (take c.args.self.now.settings.desks c.args.self.now.desks) c.loop-desk.desk-items
    c.desk-item.result c.requires.pass_on c.requires.accept c.loop-desk-test.true c.loop-desk.invariant c.requires.hold).0

pub go_on-requires-clause-accept : goal.go_on-requires-clause-accept
go_on-requires-clause-accept c =
    (next_fits c.args.self.now.settings c.args.ticks c.loop-desk.desk-index (take c.args.self.now.settings.desks c.args.self.now.desks) c.loop-desk.desk-items
    c.desk-item.result c.requires.pass_on c.requires.accept c.loop-desk-test.true c.loop-desk.invariant c.requires.hold).1

pub loop-desk-preserved : goal.loop-desk-preserved
loop-desk-preserved c =
    grind (
      arith,
      map_over_more (later c.args.ticks) (take c.args.self.now.settings.desks c.args.self.now.desks) c.loop-desk.desk-items c.loop-desk.desk-index
          (get_or c.loop-desk.desk-items c.loop-desk.desk-index c.desk-item.result),
    )
