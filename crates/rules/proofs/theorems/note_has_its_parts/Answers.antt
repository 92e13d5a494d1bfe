use Rattle.rules.proofs.NoteLaws.{note_equal}
use Rattle.rules.proofs.theorems.note_has_its_parts.Goals as goal

pub returns : goal.returns
returns c = note_equal
