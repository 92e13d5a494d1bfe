use Rattle.notes.proofs.PostingLaws.{none_reached}
use Rattle.notes.proofs.posting.Sender.all_reached.Goals as goal

pub loop-note-init : goal.loop-note-init
loop-note-init c = λ e few j low. none_reached c.empty-reached.result e j c.empty-reached.ensures few
