use Rattle.std.proofs.Common.{◌≡◌, ◌∙◌, sym, false, take, arith}
use Rattle.rules.specs.Rules.{waits, note_of}
use Rattle.notes.proofs.PostingLaws.{added_there, added_within, added_new}
use Rattle.notes.proofs.posting.Sender.post_missing_of_many.Goals as goal
use Rattle.notes.proofs.posting.Sender.post_missing_of_many.Goals.{then-not-many_have, else-not-many_have}

pub bounds-area-count : goal.bounds-area-count
bounds-area-count c =
    let new : waits (take c.args.waiting c.args.area.now) (note_of c.args.self.now.time_out c.args.self.now.source c.loop-number.number c.args.entry) ≡ false =
    sym (c.many_reached-reached.ensures c.loop-number.number (omega arith)) ∙ sym c.many_have.ensures ∙ c.if-not-many_have.true in
    let within = added_within c.args.waiting c.args.area.now c.args.self.now.time_out c.args.self.now.source c.args.entry c.loop-number.number c.loop-number.count c.loop-number.area c.loop-number.invariant c.args.self.now.desks c.loop-number-test.true c.requires.room new in
    omega (arith, within)

pub loop-number-preserved : goal.loop-number-preserved
loop-number-preserved c =
    let w = c.args.waiting in
    let area = c.args.area.now in
    let t = c.args.self.now.time_out in
    let i = c.args.self.now.source in
    let e = c.args.entry in
    let j = c.loop-number.number in
    let told : c.many_have.result ≡ waits (take w area) (note_of t i j e) = c.many_have.ensures ∙ c.many_reached-reached.ensures j (omega arith) in
    elim c.if-not-many_have.branch [
      | then-not-many_have x ↦
          rw (x.count-is, x.area-is, x.note_to.ensures) (added_new w area t i e j c.loop-number.count c.loop-number.area c.loop-number.invariant c.args.self.now.desks c.loop-number-test.true c.requires.room (sym told ∙ x.if-not-many_have.true))
      | else-not-many_have x ↦
          rw (x.count-is, x.area-is) (added_there w area t i e j c.loop-number.count c.loop-number.area c.loop-number.invariant (sym told ∙ x.if-not-many_have.false))
    ]
