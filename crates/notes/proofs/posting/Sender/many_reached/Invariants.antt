use Rattle.std.proofs.Common.{take}
use Rattle.notes.specs.Posting.{ManyTell}
use Rattle.notes.proofs.posting.Sender.many_reached.Given as goal

abbrev pub invariant-loop-note : goal.invariant-loop-note
invariant-loop-note l = ManyTell l.reached (take l.note-index l.notes) l.self l.entry
