use Rattle.std.proofs.Common.{◌≡◌, ◌<◌, ◌∙◌, ◌/◌, ◌%◌, refl, rules, arith}
use Rattle.notes.proofs.PostingLaws.{many_more}
use Rattle.notes.proofs.posting.Sender.add_to_many.Goals as goal

pub returns-then-note-note_to : goal.returns-then-note-note_to
returns-then-note-note_to c =
    let d = c.desk.inside.0 in
    let desk_is : d ≡ c.destination_of-desk.result = c.desk.view_is in
    let byte : d < 256 = rw (desk_is, c.destination_of-desk.ensures) (omega arith) in
    many_more c.args.reached.now c.args.note c.args.self.now.time_out c.args.self.now.source c.args.entry d (d / 16) (d % 16) c.with.result
    c.index-reached-k.result (search rules) refl refl (rw desk_is (c.if-note-note_to.true ∙ c.note_to.ensures)) byte c.with.ensures
