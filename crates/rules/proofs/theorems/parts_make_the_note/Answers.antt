use Rattle.rules.proofs.NoteLaws.{note_same}
use Rattle.rules.proofs.theorems.parts_make_the_note.Goals as goal

pub returns : goal.returns
returns c = note_same
