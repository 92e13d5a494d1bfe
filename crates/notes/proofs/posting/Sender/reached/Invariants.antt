use Rattle.std.proofs.Common.{take}
use Rattle.notes.specs.Posting.{Tells}
use Rattle.notes.proofs.posting.Sender.reached.Given as goal

abbrev pub invariant-loop-note : goal.invariant-loop-note
invariant-loop-note l = Tells l.reached (take l.note-index l.notes) l.self l.entry
