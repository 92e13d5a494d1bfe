use Rattle.sets.proofs.MemberLaws.{member_zero}
use Rattle.notes.proofs.posting.Sender.reached.Goals as goal

pub loop-note-init : goal.loop-note-init
loop-note-init c = λ j low. rw c.empty-reached.ensures (member_zero j)
