use Rattle.std.proofs.Common.{rules, ◌+◌}
use Rattle.std.proofs.lemmas.Grind.{put_two}
use Rattle.reports.specs.Lines.{desk_line, desks_below}
use Rattle.reports.proofs.LineLaws.{line_put}
use Rattle.reports.proofs.floor_lines.FloorLinesDisplay.fmt.Goals as goal

pub loop-number-preserved : goal.loop-number-preserved
loop-number-preserved g c plain =
    let k = c.loop-number.number in
    let ds = c.args.self.now.floor.now.desks in
    put_two _ _ c.loop-number.f _ (desks_below k ds) (desk_line k c.desk-item.result) (desks_below (k + 1) ds) (c.loop-number.invariant plain) (search rules)
    (line_put c.from.result k ds c.desk-item.result (search rules) c.desk-item.is)
