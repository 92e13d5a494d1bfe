use Rattle.notes.proofs.PostingLaws.{none_of_many}
use Rattle.notes.proofs.posting.Sender.many_reached.Goals as goal

pub loop-note-init : goal.loop-note-init
loop-note-init c = λ j low. none_of_many c.empty-reached.result j c.empty-reached.ensures low
