use Rattle.std.proofs.Common.{◌≡◌, sym, true, length, arith, rules}
use Rattle.rules.specs.Rules.{within_limits}
use Rattle.rules.proofs.Shapes.{limits}
use Rattle.floors.proofs.Shapes.{in_shape_limits, in_shape_is}
use Rattle.floors.proofs.Floor.in_shape.Goals as goal

pub returns-then-not-within_limits : goal.returns-then-not-within_limits
returns-then-not-within_limits c = sym (in_shape_limits c.args.self.now c.args.area.now (search rules))

pub returns-then-all_zero : goal.returns-then-all_zero
returns-then-all_zero c =
    let good : within_limits c.args.self.now.settings ≡ true = search rules in
    let long : length c.args.self.now.desks ≡ 16 = omega arith in
    rw (in_shape_is c.args.self.now c.args.area.now c.requires (limits c.args.self.now.settings good).desks.1 long) (search rules)

pub returns-else-all_zero : goal.returns-else-all_zero
returns-else-all_zero c =
    let good : within_limits c.args.self.now.settings ≡ true = search rules in
    let long : length c.args.self.now.desks ≡ 16 = omega arith in
    rw (in_shape_is c.args.self.now c.args.area.now c.requires (limits c.args.self.now.settings good).desks.1 long) (search rules)
