use Rattle.std.proofs.Common.{◌≡◌, length, arith, rules}
use Rattle.rules.proofs.DeskShapes.{sets_are}
use Rattle.rules.proofs.Desk.in_shape.Goals as goal

pub returns-then-all_below : goal.returns-then-all_below
returns-then-all_below c =
    let long : length c.args.self.now.received ≡ 64 = omega arith in
    rw (sets_are c.args.settings c.args.self.now c.requires long) (search rules)

pub returns-else-all_below : goal.returns-else-all_below
returns-else-all_below c =
    let long : length c.args.self.now.received ≡ 64 = omega arith in
    rw (sets_are c.args.settings c.args.self.now c.requires long) (search rules)
