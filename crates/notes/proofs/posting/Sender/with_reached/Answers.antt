use Rattle.std.proofs.Common.{◌≡◌, arith}
use Rattle.rules.specs.Rules.{note_of}
use Rattle.notes.proofs.PostingLaws.{reach_hit}
use Rattle.notes.proofs.posting.Sender.with_reached.Goals as goal

pub returns-then-note-desk : goal.returns-then-note-desk
returns-then-note-desk c =
    λ j low.
    let d = c.destination_number-desk.result in
    let is : c.args.note ≡ note_of c.args.self.now.time_out c.args.self.now.source d c.args.entry = omega arith in
    rw c.with.ensures (reach_hit c.args.set c.args.note c.args.self.now.time_out c.args.self.now.source c.args.entry d is j low)
