use Rattle.std.specs.Fmt.{HasWritten, IsPlainFormatter}
use Rattle.reports.specs.Lines.{desks_below}
use Rattle.reports.proofs.floor_lines.FloorLinesDisplay.fmt.Given as goal

abbrev pub invariant-loop-number : goal.invariant-loop-number
invariant-loop-number g l = IsPlainFormatter l.initial.f → HasWritten g.W.Write.write_str_gives l.initial.f (desks_below l.number l.self.floor.now.desks) l.f
