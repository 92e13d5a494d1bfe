use Rattle.std.proofs.Common.{◌≡◌, ◌∙◌, Ok, length, sym, ap, arith, rules}
use Rattle.records.specs.Records.{action_of}
use Rattle.holds.proofs.TakeLaws.{announced_entry}
use Rattle.holds.proofs.Hold.take.Goals as goal

pub listed : goal.listed
listed c =
    let below = announced_entry c.args.self.now.floor c.args.area.now (action_of c.args.fields) c.in_ok-told.told c.in-Announce.desk c.in-Announce.entry (sym c.in_ok-told.ensures.answer) (sym c.action.ensures.is ∙ c.in_ok-desk.was ∙ ap Ok c.in-Announce.is) in
    let number : c.entry.inside.0 ≡ c.in-Announce.entry = c.entry.view_is in
    let many : length c.args.self.now.stickers ≡ 64 = search rules in
    omega (arith, below, number, many)

pub bounds-self-entry-inside : goal.bounds-self-entry-inside
bounds-self-entry-inside c =
    let below = announced_entry c.args.self.now.floor c.args.area.now (action_of c.args.fields) c.in_ok-told.told c.in-Announce.desk c.in-Announce.entry (sym c.in_ok-told.ensures.answer) (sym c.action.ensures.is ∙ c.in_ok-desk.was ∙ ap Ok c.in-Announce.is) in
    let number : c.entry.inside.0 ≡ c.in-Announce.entry = c.entry.view_is in
    omega (arith, below, number)
