use Rattle.std.proofs.Common.{◌≡◌, ◌∙◌, sym, false, take, arith}
use Rattle.rules.specs.Rules.{waits, note_of}
use Rattle.notes.proofs.PostingLaws.{added_there, added_within, added_new}
use Rattle.notes.proofs.posting.Sender.post_missing.Goals as goal
use Rattle.notes.proofs.posting.Sender.post_missing.Goals.{then-not-has, else-not-has}

pub bounds-area-count : goal.bounds-area-count
bounds-area-count c =
    let new : waits (take c.args.waiting c.args.area.now) (note_of c.args.self.now.time_out c.args.self.now.source c.loop-desk.desk c.args.entry) ≡ false =
    sym (c.requires.reached c.loop-desk.desk (omega arith)) ∙ sym c.has.ensures ∙ c.if-not-has.true in
    let within = added_within c.args.waiting c.args.area.now c.args.self.now.time_out c.args.self.now.source c.args.entry c.loop-desk.desk c.loop-desk.count c.loop-desk.area c.loop-desk.invariant c.args.self.now.desks c.loop-desk-test.true c.requires.room new in
    omega (arith, within)

pub loop-desk-preserved : goal.loop-desk-preserved
loop-desk-preserved c =
    let w = c.args.waiting in
    let area = c.args.area.now in
    let t = c.args.self.now.time_out in
    let i = c.args.self.now.source in
    let e = c.args.entry in
    let j = c.loop-desk.desk in
    let told : c.has.result ≡ waits (take w area) (note_of t i j e) = c.has.ensures ∙ c.requires.reached j (omega arith) in
    elim c.if-not-has.branch [
      | then-not-has x ↦
          rw (x.count-is, x.area-is, x.note_to.ensures) (added_new w area t i e j c.loop-desk.count c.loop-desk.area c.loop-desk.invariant c.args.self.now.desks c.loop-desk-test.true c.requires.room (sym told ∙ x.if-not-has.true))
      | else-not-has x ↦
          rw (x.count-is, x.area-is) (added_there w area t i e j c.loop-desk.count c.loop-desk.area c.loop-desk.invariant (sym told ∙ x.if-not-has.false))
    ]
