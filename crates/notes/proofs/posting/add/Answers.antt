use Rattle.notes.proofs.PostingLaws.{laid_new}
use Rattle.notes.proofs.posting.add.Goals as goal

pub returns-clause-area : goal.returns-clause-area
returns-clause-area c = laid_new c.args.waiting c.args.area.now c.args.note c.requires.waiting c.requires.new c.requires.room
