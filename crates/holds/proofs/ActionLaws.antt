-- What an action leaves of a hold in shape: the floor is the rules' next, and all is in shape. Assumes nothing.
use Rattle.std.proofs.Common.{◌≡◌, ◌∙◌, ℕ, ◌≤◌, ◌<◌, ◌≢◌, Bool, true, false, nat_eq, List, [], ◌∷◌, get_or, length, Result, Ok, Err, is_ok, subst, refl, sym, arith, length-set, get_or-set_same, get_or-set_other, if◌then◌else◌}
use Rattle.std.specs.Prelude.{⊤}
use mathlib.Core.Logic.{⊎_elim}
use mathlib.Core.Bool.{and-false}
use native.Mathlib.Nat.{lt_of_lt_of_le}
use borrow.Author.Tests.{eqb-true, eqb-false}
use Rattle.sets.proofs.Tests.{decided}
use Rattle.rules.specs.declared.Action.{Action}
use Rattle.rules.specs.declared.Action.TheVariants.{Delay, Announce, PassOn, Accept, Receive, Crash, ResetTimers, FalseNote}
use Rattle.rules.specs.declared.Refusal.{Refusal}
use Rattle.rules.specs.Rules as rules
use Rattle.rules.specs.Rules.{State, first_of, no_desk, desk_at, is_sent, answer, effect, next}
use Rattle.rules.specs.Running.{Asked}
use Rattle.rules.proofs.CheckLaws.{true_ok, carried_out_passed, next_carried_out, announce_below}
use Rattle.rules.proofs.Effects.{next_kept}
use Rattle.rules.proofs.Shapes.{shape, shape_limits}
use Rattle.rules.proofs.ShapeKept.{next_shape}
use Rattle.rules.proofs.Travels.{announce_marks}
use Rattle.agreement.specs.Wait.{asks, announces}
use Rattle.notes.specs.Area.{laid}
use Rattle.notes.proofs.AreaLaws.{length_laid}
use Rattle.floors.specs.declared.Floor.{Floor}
use Rattle.floors.specs.Floors.{state_of, floor_of, in_shape, wrong_area, handed_in, once, told, acted}
use Rattle.floors.proofs.Shapes.{in_shape_state, in_shape_waiting, step_in_shape, state_laid}
use Rattle.floors.proofs.Refused.{once_ok, step_stays}
use Rattle.holds.specs.declared.Sticker.{Sticker}
use Rattle.holds.specs.declared.Hold.{Hold}
use Rattle.holds.specs.Stickers.{fresh_sticker, announced_by}
use Rattle.holds.specs.Holds.{sticker_at, announcing, noting, noted_out_of_shape, asked_of, answer_to, Standing, HandedIn, after, taken}
use Rattle.holds.proofs.StickerLaws.{StickerShape}
use Rattle.holds.proofs.ShapeKept.{later_shape, announced_shape}
use Rattle.holds.proofs.HoldLaws.{Fit, asked_is, noted_each, each_noted}

module _ (h : Hold) (area : List ℕ) (fit : Fit h area) (m : Action) where
  abbrev s : State
  s = state_of h.floor area

  abbrev pub fl : Floor
  fl = floor_of (next s m)

  abbrev pub left : List ℕ
  left = laid h.floor.waiting area (next s m).notes

  shaped : rules.in_shape s ≡ true
  shaped = in_shape_state h.floor area fit.floor

  pub state_left : state_of fl left ≡ next s m
  state_left = state_laid (next s m) h.floor.waiting area

  pub floor_fit : (length left ≡ 2048) × (in_shape fl left ≡ true) × (length fl.desks ≡ 16)
  floor_fit =
      let few = in_shape_waiting h.floor area fit.floor in
      let more = (shape (next s m) (next_shape s m shaped)).room in
      let room = fit.room in (
        length_laid h.floor.waiting area (next s m).notes (omega (arith, few, room)) (omega (arith, more, room)) ∙ fit.room,
        step_in_shape h.floor area m fit.floor,
        (next_kept s m).long ∙ fit.desks,
      )

  -- ---- stickers

  clock_on : h.floor.clock ≤ fl.clock
  clock_on = (next_kept s m).clock

  marks_stay : (e i : ℕ) → i < 16 → is_sent (get_or h.floor.desks i no_desk) e ≡ true → is_sent (get_or fl.desks i no_desk) e ≡ true
  marks_stay e i l has = ((next_kept s m).desks i).sent e has

  kept : (e : ℕ) → e < 64 → StickerShape fl e (sticker_at h.stickers e)
  kept e l = later_shape h.floor fl e (sticker_at h.stickers e) (noted_each h fit.noted e l) (next_kept s m).settings clock_on (marks_stay e)

-- an announcement that is carried out
module _ (h : Hold) (area : List ℕ) (fit : Fit h area) (d c : ℕ) (done : answer (state_of h.floor area) (Announce d c) ≡ Ok tt) where
  abbrev st : State
  st = state_of h.floor area

  pub announcer_below : (d < h.floor.settings.desks) × (d < 16)
  announcer_below =
      let below = (announce_below st d c (carried_out_passed st (Announce d c) done)).0 in
      (below, lt_of_lt_of_le below (shape_limits st (shape st (shaped h area fit (Announce d c)))).desks.1)

  pub entry_below : (c < h.floor.settings.entries) × (c < 64)
  entry_below =
      let below = (announce_below st d c (carried_out_passed st (Announce d c) done)).1 in
      (below, lt_of_lt_of_le below (shape_limits st (shape st (shaped h area fit (Announce d c)))).entries.1)

  mark_set : is_sent (desk_at (next st (Announce d c)) d) c ≡ true
  mark_set =
      rw (next_carried_out st (Announce d c) done)
      (announce_marks st d (let there : d < length h.floor.desks = rw fit.desks announcer_below.1 in there) c)

  abbrev pub own : Sticker
  own = announced_by d h.floor.settings.faults h.floor.clock (sticker_at h.stickers c)

  own_shape : StickerShape (fl h area fit (Announce d c)) c own
  own_shape =
      let most : h.floor.settings.desks ≤ 16 = (shape_limits st (shape st (shaped h area fit (Announce d c)))).desks.1 in
      announced_shape h.floor (fl h area fit (Announce d c)) c (sticker_at h.stickers c) (noted_each h fit.noted c entry_below.1)
      (next_kept st (Announce d c)).settings (clock_on h area fit (Announce d c)) (marks_stay h area fit (Announce d c) c)
      d announcer_below.0 most entry_below.0 mark_set

  -- the entry that is announced, and every other
  pub by_entry : (Q : ℕ → Sticker → Type 0) → Q c own → ((e : ℕ) → e < 64 → e ≢ c → Q e (sticker_at h.stickers e)) → (e : ℕ) → e < 64 → Q e (sticker_at (announcing h d c) e)
  by_entry Q mine others e l =
      ⊎_elim
      (λ same. let here : e ≡ c = eqb-true e c same in
      let there : c < length h.stickers = rw fit.stickers entry_below.1 in
      subst (λ (q : ℕ). Q q (sticker_at (announcing h d c) q)) (sym here) (subst (Q c) (sym (get_or-set_same h.stickers c own fresh_sticker there)) mine))
      (λ differs. let other = eqb-false e c differs in subst (Q e) (sym (get_or-set_other h.stickers c e own fresh_sticker other)) (others e l other))
      (decided (nat_eq e c))

-- ---- what an action leaves: nothing is noted, or an announcement

module _ (h : Hold) (area : List ℕ) (fit : Fit h area) (m : Action) where
  -- the hold that has these stickers beside the floor that is left
  abbrev pub with : List Sticker → Hold
  with sts = record { floor = floor_of (next (state_of h.floor area) m); stickers = sts }

  fitting : (sts : List Sticker) → length sts ≡ 64 → ((e : ℕ) → e < 64 → StickerShape (with sts).floor e (sticker_at sts e)) → Fit (with sts) (left h area fit m)
  fitting sts many ok =
      let f = floor_fit h area fit m in
      record { room = f.0; floor = f.1; noted = each_noted (with sts) ok; desks = f.2; stickers = many }

  pub same_fit : Fit (with h.stickers) (left h area fit m)
  same_fit = fitting h.stickers fit.stickers (kept h area fit m)

pub announced_fit : (h : Hold) (area : List ℕ) (fit : Fit h area) (d c : ℕ) → answer (state_of h.floor area) (Announce d c) ≡ Ok tt
    → Fit (with h area fit (Announce d c) (announcing h d c)) (left h area fit (Announce d c))
announced_fit h area fit d c done =
    fitting h area fit (Announce d c) (announcing h d c) (length-set h.stickers c (own h area fit d c done) ∙ fit.stickers)
    (by_entry h area fit d c done (StickerShape (fl h area fit (Announce d c))) (own_shape h area fit d c done) (λ e l other. kept h area fit (Announce d c) e l))

-- what holds where nothing is announced, and where an announcement is noted, holds after an action
pub after_either : (h : Hold) (area : List ℕ) (fit : Fit h area) (m : Action) (Q : Action → Hold → Type 0)
    → ((d c : ℕ) → answer (state_of h.floor area) (Announce d c) ≡ Ok tt → Q (Announce d c) (with h area fit (Announce d c) (announcing h d c)))
    → ((n : Action) → ((e i : ℕ) → announces e (state_of h.floor area) n i ≡ false) → Q n (with h area fit n h.stickers))
    → Q m (after h area (Ok m)).hold
after_either h area fit m Q told silent =
    ⊎_elim (λ ok. by true ok (go m ok)) (λ refused. by false refused (silent m (λ e i. rw refused refl))) (decided (is_ok (answer (state_of h.floor area) m)))
  where
    by : (b : Bool) → is_ok (answer (state_of h.floor area) m) ≡ b → Q m (with h area fit m (if b then noting h m else h.stickers)) → Q m (after h area (Ok m)).hold
    by b is = subst (λ (c : Bool). Q m (with h area fit m (if c then noting h m else h.stickers))) (sym is)

    none : (n : Action) → ((e i : ℕ) → asks e n i ≡ false) → Q n (with h area fit n h.stickers)
    none n other = silent n (λ e i. rw (other e i, and-false) refl)

    go : (n : Action) → is_ok (answer (state_of h.floor area) n) ≡ true → Q n (with h area fit n (noting h n))
    go (Announce d c) ok = told d c (true_ok (answer (state_of h.floor area) (Announce d c)) ok)
    go (Delay t) ok = none (Delay t) (λ e i. refl)
    go (PassOn j) ok = none (PassOn j) (λ e i. refl)
    go (Accept j) ok = none (Accept j) (λ e i. refl)
    go (Receive j d c) ok = none (Receive j d c) (λ e i. refl)
    go (Crash j) ok = none (Crash j) (λ e i. refl)
    go (ResetTimers j) ok = none (ResetTimers j) (λ e i. refl)
    go (FalseNote j d c t) ok = none (FalseNote j d c t) (λ e i. refl)

pub after_fit : (h : Hold) (area : List ℕ) → Fit h area → (m : Action) → let o = after h area (Ok m) in Fit o.hold o.area
after_fit h area fit m =
    after_either h area fit m (λ (n : Action) (q : Hold). Fit q (left h area fit n)) (λ d c done. announced_fit h area fit d c done) (λ n silent. same_fit h area fit n)

-- ---- any action, refused or not

pub taken_fit : (o : Standing) (x : Asked) → HandedIn o → HandedIn (taken o x)
taken_fit o x fit = subst (λ (y : Asked). HandedIn (after o.hold o.area y)) (sym (asked_is o.hold o.area fit x)) (go x)
  where
    go : (y : Asked) → HandedIn (after o.hold o.area y)
    go (Ok m) = after_fit o.hold o.area fit m
    go (Err refusal) = fit

told_refused : (new : Bool) (a : Result ⊤ Refusal) (r : Refusal) → told new a ≡ Err r → is_ok a ≡ false
told_refused new (Ok _) r e = cc
told_refused new (Err other) r e = refl

pub refused_same : (o : Standing) (x : Asked) (refusal : Refusal) → answer_to o x ≡ Err refusal → taken o x ≡ o
refused_same o x refusal = go (asked_of o.hold o.area x) refl
  where
    go : (y : Asked) → asked_of o.hold o.area x ≡ y → acted (state_of o.hold.floor o.area) y ≡ Err refusal → after o.hold o.area y ≡ o
    go (Err other) is e = refl
    go (Ok m) is e =
        let own = once_ok (first_of (wrong_area o.area ∷ noted_out_of_shape o.hold ∷ [])) (once (handed_in o.hold.floor o.area) x) m is in
        let kept = step_stays o.hold.floor o.area (once_ok (handed_in o.hold.floor o.area) x m own.1).0 m refusal (sym e) in
        let refused : is_ok (answer (state_of o.hold.floor o.area) m) ≡ false = told_refused _ (answer (state_of o.hold.floor o.area) m) refusal e in
        rw (kept.0, kept.1, refused) refl
