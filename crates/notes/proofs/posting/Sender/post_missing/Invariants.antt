use Rattle.notes.proofs.PostingLaws.{Added}
use Rattle.notes.proofs.posting.Sender.post_missing.Given as goal

abbrev pub invariant-loop-desk : goal.invariant-loop-desk
invariant-loop-desk l = Added l.waiting l.fn.area l.self.time_out l.self.source l.entry l.desk l.count l.area
