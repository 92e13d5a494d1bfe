use Rattle.std.proofs.Common.{◌≡◌, replicate, ap}
use Rattle.runs.specs.Runs.{whole_opening}
use Rattle.runs.proofs.WholeLaws.{all_after}
use Rattle.holds.specs.declared.Hold.{Hold}
use Rattle.holds.specs.Stickers.{fresh_sticker}
use Rattle.holds.specs.Sequences.{Went}
use Rattle.holds.proofs.TakeLaws.{whole_opens, whole_refused, whole_kept, where_opened}
use Rattle.holds.proofs.Hold.whole.Goals as goal

pub returns-in-Ok : goal.returns-in-Ok
returns-in-Ok c =
    let none : c.forget.new.self.stickers ≡ replicate 64 fresh_sticker = ap (λ (h : Hold). h.stickers) c.forget.ensures in
    let went = rw (all_after, none) at c.take_all.ensures in
    let all = whole_opens c.args.area.now c.args.sequence.now c.open_first.new.floor c.open_first.new.area c.open_first.ensures.floor c.open_first.ensures.area c.in-Ok.ensures.answer _ went in
    record {
      taken = ap (λ (w : Went). w.taken) all;
      hold = ap (λ (w : Went). w.left.hold) all;
      area = ap (λ (w : Went). w.left.area) all;
      kept = where_opened _ (whole_opening c.args.area.now c.args.sequence.now) c.in-Ok.ensures.answer;
    }

pub returns-in-Err : goal.returns-in-Err
returns-in-Err c =
    let none : c.forget.new.self.stickers ≡ replicate 64 fresh_sticker = ap (λ (h : Hold). h.stickers) c.forget.ensures in
    let all = whole_refused c.args.area.now c.args.sequence.now c.open_first.new.floor c.open_first.new.area c.open_first.ensures.floor c.open_first.ensures.area c.in-Err.refusal c.in-Err.ensures.answer in
    let kept = whole_kept c.args.area.now c.args.sequence.now c.open_first.new.floor c.open_first.new.area c.open_first.ensures.floor c.open_first.ensures.area in
    rw none (record { taken = ap (λ (w : Went). w.taken) all; hold = ap (λ (w : Went). w.left.hold) all; area = ap (λ (w : Went). w.left.area) all; kept = kept })
