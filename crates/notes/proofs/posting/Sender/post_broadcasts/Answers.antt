use Rattle.std.proofs.Common.{◌≡◌, ◌∙◌, sym, length, take, length-take-le, eqb-true, arith}
use Rattle.notes.proofs.AreaLaws.{laid_same}
use Rattle.notes.proofs.PostingLaws.{none_due}
use Rattle.notes.proofs.posting.Sender.post_broadcasts.Goals as goal

pub returns-then-is_empty-clause-count : goal.returns-then-is_empty-clause-count
returns-then-is_empty-clause-count c =
    let empty : c.args.entries ≡ 0 = eqb-true _ _ (sym c.is_empty.ensures ∙ c.if-is_empty.true) in
    let none = none_due c.args.entries (take c.args.waiting c.args.area.now) c.args.self.now.time_out c.args.self.now.source c.args.self.now.desks c.args.u empty in
    let long : length (take c.args.waiting c.args.area.now) ≡ c.args.waiting = length-take-le c.args.waiting c.args.area.now c.requires.waiting in
    rw (none, long) (grind arith)

pub returns-then-is_empty-clause-area : goal.returns-then-is_empty-clause-area
returns-then-is_empty-clause-area c =
    let empty : c.args.entries ≡ 0 = eqb-true _ _ (sym c.is_empty.ensures ∙ c.if-is_empty.true) in
    let none = none_due c.args.entries (take c.args.waiting c.args.area.now) c.args.self.now.time_out c.args.self.now.source c.args.self.now.desks c.args.u empty in
    let long : length (take c.args.waiting c.args.area.now) ≡ c.args.waiting = length-take-le c.args.waiting c.args.area.now c.requires.waiting in
    let same = laid_same c.args.waiting c.args.area.now c.requires.waiting in
    rw (none, same, long) (grind arith)
