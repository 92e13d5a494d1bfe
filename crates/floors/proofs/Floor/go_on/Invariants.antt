use Rattle.std.proofs.Common.{◌≡◌, take}
use Rattle.rules.specs.Rules.{map_first, later}
use Rattle.floors.proofs.Floor.go_on.Given as goal

abbrev pub invariant-loop-desk : goal.invariant-loop-desk
invariant-loop-desk l = l.desk-items ≡ map_first l.desk-index (later l.ticks) (take l.fn.self.settings.desks l.fn.self.desks)
