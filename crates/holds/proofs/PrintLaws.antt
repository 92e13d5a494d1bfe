-- Whether a sticker may be printed, by its checks, and the ways of a print. Assumes nothing.
use Rattle.std.proofs.Common.{◌≡◌, ◌∙◌, ℕ, ◌≤◌, ◌<◌, Bool, true, false, nat_eq, List, get_or, set, length, Ok, Err, is_ok, subst, refl, sym, ap, arith, length-set, get_or-set_same, get_or-set_other, if◌then◌else◌}
use Rattle.std.proofs.lemmas.List.{get_or_default, set_past}
use mathlib.Core.Logic.{inr, ⊎_elim}
use native.Mathlib.Nat.{lt_of_lt_of_le}
use borrow.Author.Tests.{eqb-true, eqb-false, not-false, lt-ltb, le-ltb}
use Rattle.sets.proofs.Tests.{decided, cond_both, le_or_lt}
use Rattle.rules.specs.declared.Refusal.TheVariants.{NoEntry, WaitNotOver, AlreadyPrinted}
use Rattle.rules.specs.declared.TheConstants.Settings.{MOST_NOTES}
use Rattle.rules.proofs.CheckLaws.{Passed, ok_passed, true_ok, below_passed}
use Rattle.floors.proofs.Shapes.{in_shape_ready}
use Rattle.records.specs.Records.{action_of}
use Rattle.floors.specs.Floors.{in_shape}
use Rattle.holds.specs.declared.Sticker.{Sticker}
use Rattle.holds.specs.declared.Hold.{Hold}
use Rattle.holds.specs.Stickers.{fresh_sticker, begun, wait_over}
use Rattle.holds.specs.Holds.{sticker_at, begun_at, noted_at, is_printed, noted_in_shape, print_checks, may_print, with_printed, printed, Standing, HandedIn}
use Rattle.holds.specs.Steps.{Step, action, print, stepped}
use Rattle.holds.proofs.StickerLaws.{StickerShape}
use Rattle.holds.proofs.ShapeKept.{printed_shape}
use Rattle.holds.proofs.ActionLaws.{taken_fit}
use Rattle.holds.proofs.HoldLaws.{Fit, noted_each, each_noted}

abbrev pub wait_over_at : Hold → ℕ → Bool
wait_over_at h e = wait_over h.floor.settings h.floor.clock (sticker_at h.stickers e)

abbrev pub marked : Sticker → Sticker
marked st = record st { printed = true }

-- the sticker that is printed, and every other
pub marked_either : (sts : List Sticker) (e : ℕ) → e < length sts → (Q : ℕ → Sticker → Type 0) → Q e (marked (sticker_at sts e)) → (c : ℕ) → Q c (sticker_at sts c)
    → Q c (sticker_at (set sts e (marked (sticker_at sts e))) c)
marked_either sts e there Q own c other =
    ⊎_elim
    (λ same. let here : c ≡ e = eqb-true c e same in
    subst (λ (q : ℕ). Q q (sticker_at (set sts e (marked (sticker_at sts e))) q)) (sym here) (subst (Q e) (sym (get_or-set_same sts e (marked (sticker_at sts e)) fresh_sticker there)) own))
    (λ differs. let apart = eqb-false c e differs in subst (Q c) (sym (get_or-set_other sts e c (marked (sticker_at sts e)) fresh_sticker apart)) other)
    (decided (nat_eq c e))

-- a floor in shape has at most 64 entries
pub few_entries : (h : Hold) (area : List ℕ) → in_shape h.floor area ≡ true → h.floor.settings.entries ≤ 64
few_entries h area ok =
    (in_shape_ready h.floor area ok).entries

module _ (h : Hold) (area : List ℕ) (e : ℕ) where
  -- a print that may be made is made when the wait is over, and was not made before
  pub record MayPrint : Type 0 where
    pub below : e < 64
    pub low : e < h.floor.settings.entries
    pub over : wait_over_at h e ≡ true
    pub new : is_printed h e ≡ false

  pub may_parts : may_print h area e ≡ Ok tt → MayPrint
  may_parts z =
      let passed : Passed (print_checks h area e) = ok_passed (print_checks h area e) z in
      let low = below_passed e h.floor.settings.entries passed.1.1.1.0 in
      record {
        below = lt_of_lt_of_le low (few_entries h area (not-false (in_shape h.floor area) passed.1.0));
        low = low;
        over = not-false (wait_over_at h e) passed.1.1.1.1.0;
        new = passed.1.1.1.1.1.0;
      }

  pub printed_either : (Q : Hold → List ℕ → Type 0) → Q h area → (e < 64 → wait_over_at h e ≡ true → is_printed h e ≡ false → Q (with_printed h e) area) → Q (printed h area e) area
  printed_either Q same prints =
      cond_both (λ (o : Hold). Q o area) (is_ok (may_print h area e)) (with_printed h e) h
      (λ ok. let p = may_parts (true_ok (may_print h area e) ok) in prints p.below p.over p.new) (λ refused. same)

  -- a print notes nothing
  pub printed_noted : (c : ℕ) → (begun_at (printed h area e) c ≡ begun_at h c) × (noted_at (printed h area e) c ≡ noted_at h c)
  printed_noted c =
      printed_either (λ q _. (begun_at q c ≡ begun_at h c) × (noted_at q c ≡ noted_at h c)) (refl, refl)
      (λ below over new.
      ⊎_elim
      (λ past. rw (set_past h.stickers e (marked (sticker_at h.stickers e)) past) (refl, refl))
      (λ there. marked_either h.stickers e there (λ q st. (begun h.floor.settings.faults st.announced ≡ begun_at h q) × (st.noted ≡ noted_at h q)) (refl, refl) c (refl, refl))
      (le_or_lt (length h.stickers) e))

  pub printed_fit : Fit h area → e < 64 → wait_over_at h e ≡ true → Fit (with_printed h e) area
  printed_fit fit below over =
      let there : e < length h.stickers = rw fit.stickers below in
      record {
        room = fit.room;
        floor = fit.floor;
        noted = each_noted (with_printed h e)
            (λ c l. marked_either h.stickers e there (StickerShape h.floor) (printed_shape h.floor e (sticker_at h.stickers e) true (noted_each h fit.noted e below) (λ p. inr over)) c (noted_each h fit.noted c l));
        desks = fit.desks;
        stickers = length-set h.stickers e (marked (sticker_at h.stickers e)) ∙ fit.stickers;
      }

  -- ---- the answers, of a hold that may be handed in

  module _ (room : length area ≡ MOST_NOTES) (shaped : in_shape h.floor area ≡ true) (own : noted_in_shape h ≡ true) where
    pub may_5 : h.floor.settings.entries ≤ e → may_print h area e ≡ Err NoEntry
    may_5 high = rw (room, shaped, own, le-ltb e h.floor.settings.entries high) refl

    module _ (low : e < h.floor.settings.entries) where
      pub may_17 : wait_over_at h e ≡ false → may_print h area e ≡ Err WaitNotOver
      may_17 w = rw (room, shaped, own, lt-ltb e h.floor.settings.entries low, w) refl

      pub may_18 : wait_over_at h e ≡ true → may_print h area e ≡ (if is_printed h e then Err AlreadyPrinted else Ok tt)
      may_18 w = rw (room, shaped, own, lt-ltb e h.floor.settings.entries low, w) refl

      -- was is whether the sticker is printed, which is read at place e
      pub may_last : length h.stickers ≡ 64 → (i : ℕ) → i ≡ e → (none : Sticker) → wait_over h.floor.settings h.floor.clock (get_or h.stickers i none) ≡ true
          → (was : Bool) → (get_or h.stickers i none).printed ≡ was → may_print h area e ≡ (if was then Err AlreadyPrinted else Ok tt)
      may_last many i at none over was is =
          let small = few_entries h area shaped in
          let here : get_or h.stickers i none ≡ sticker_at h.stickers e = ap (λ (n : ℕ). get_or h.stickers n none) at ∙ get_or_default h.stickers e none fresh_sticker (omega (arith, small, many, low)) in
          may_18 (subst (λ (q : Sticker). wait_over h.floor.settings h.floor.clock q ≡ true) here over)
          ∙ ap (λ (b : Bool). if b then Err AlreadyPrinted else Ok tt) (ap (λ (q : Sticker). q.printed) (sym here) ∙ is)

-- every step, an action or a print
pub stepped_fit : (o : Standing) (step : Step) → HandedIn o → HandedIn (stepped o step)
stepped_fit o (action r) fit = taken_fit o (action_of r) fit
stepped_fit o (print e) fit = printed_either o.hold o.area e Fit fit (λ below over new. printed_fit o.hold o.area e fit below over)
