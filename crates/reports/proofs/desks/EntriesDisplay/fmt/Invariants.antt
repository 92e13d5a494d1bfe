use Rattle.std.specs.Fmt.{HasWritten, IsPlainFormatter}
use Rattle.reports.specs.Lines.{entries_below}
use Rattle.reports.proofs.desks.EntriesDisplay.fmt.Given as goal

abbrev pub invariant-loop-e : goal.invariant-loop-e
invariant-loop-e g l = IsPlainFormatter l.initial.f → HasWritten g.W.Write.write_str_gives l.initial.f (entries_below l.e-counter l.self.0) l.f
