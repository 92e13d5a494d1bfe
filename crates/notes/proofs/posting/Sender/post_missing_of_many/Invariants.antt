use Rattle.notes.proofs.PostingLaws.{Added}
use Rattle.notes.proofs.posting.Sender.post_missing_of_many.Given as goal

abbrev pub invariant-loop-number : goal.invariant-loop-number
invariant-loop-number l = Added l.waiting l.fn.area l.self.time_out l.self.source l.entry l.number l.count l.area
