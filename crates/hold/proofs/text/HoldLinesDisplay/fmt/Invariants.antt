use Rattle.std.specs.Fmt.{HasWritten, IsPlainFormatter}
use Rattle.hold.specs.Text.{entries_noted}
use Rattle.hold.proofs.text.HoldLinesDisplay.fmt.Given as goal

abbrev pub invariant-loop-e : goal.invariant-loop-e
invariant-loop-e g l = IsPlainFormatter l.initial.f → HasWritten g.W.Write.write_str_gives l.initial.f (entries_noted l.e l.self.hold.now l.self.area.now) l.f
