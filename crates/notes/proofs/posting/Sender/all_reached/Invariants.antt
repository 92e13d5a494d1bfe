use Rattle.std.proofs.Common.{take}
use Rattle.notes.specs.Posting.{AllTell}
use Rattle.notes.proofs.posting.Sender.all_reached.Given as goal

abbrev pub invariant-loop-note : goal.invariant-loop-note
invariant-loop-note l = AllTell l.reached (take l.note-index l.notes) l.self
