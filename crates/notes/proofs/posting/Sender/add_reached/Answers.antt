use Rattle.std.proofs.Common.{◌≡◌, ◌<◌, ◌∙◌, rules, arith}
use Rattle.notes.proofs.PostingLaws.{reach_more}
use Rattle.notes.proofs.posting.Sender.add_reached.Goals as goal

pub returns-then-note-note_to : goal.returns-then-note-note_to
returns-then-note-note_to c =
    let entry_is : c.entry-then-entry-lt64.inside.0 ≡ c.entry_of-entry.result = c.entry-then-entry-lt64.view_is in
    let few : c.entry-then-entry-lt64.inside.0 < 64 = search rules in
    let byte : c.destination_of-desk.result < 256 = rw c.destination_of-desk.ensures (omega arith) in
    reach_more c.args.reached.now c.args.note c.args.self.now.time_out c.args.self.now.source c.entry-then-entry-lt64.inside.0 c.destination_of-desk.result c.with.result
    c.index-reached-e.result (search rules) few (rw entry_is (c.if-note-note_to.true ∙ c.note_to.ensures)) byte c.with.ensures
