-- THE HOLD ON THE PRINTERS: what follows the rules has the promise, and so every hold has it that actions and prints lead to from an
-- opening, refused ones among them. Assumes nothing.
use Rattle.std.proofs.Common.{◌≡◌, ◌∙◌, ℕ, ◌+◌, ◌≤◌, ◌<◌, true, false, nat_le, nat_lt, List, [], ◌∷◌, ◌++◌, Option, Some, None, Ok, Err, subst, refl, sym, ap, arith}
use mathlib.Core.List.{append_assoc, append-nil}
use mathlib.Core.Logic.{⊎_elim}
use native.Mathlib.Nat.{lt_of_lt_of_le}
use borrow.Author.Tests.{lt-ltb, ltb-true}
use Rattle.sets.proofs.Tests.{clash, decided, and_left, and_right, and_both}
use Rattle.rules.specs.declared.Settings.{Settings}
use Rattle.rules.specs.declared.Action.{Action}
use Rattle.rules.specs.declared.Refusal.TheVariants.{NoEntry, WaitNotOver}
use Rattle.rules.specs.Rules.{State, wait, within_limits}
use Rattle.rules.proofs.Shapes.{limits}
use Rattle.agreement.specs.Wait.{floor_after, AnnouncedBy, OnEveryGoodList}
use Rattle.agreement.proofs.WaitIsEnough.{wait_is_enough}
use Rattle.records.specs.declared.Record.{Record}
use Rattle.records.specs.Records.{action_of}
use Rattle.floors.specs.Floors.{state_of, acted, opening, floor_opened, area_opened}
use Rattle.runs.proofs.WaitLaws.{opening_limits}
use Rattle.holds.specs.declared.Hold.{Hold}
use Rattle.holds.specs.Stickers.{is_past, noted_fits}
use Rattle.holds.specs.FirstClock.{FirstBy}
use Rattle.holds.specs.Holds.{sticker_at, begun_at, noted_at, Standing, taken, printed, may_print, new_hold}
use Rattle.holds.specs.Steps.{Step, action, print, left_by, opened_hold, asks_for, actions_of}
use Rattle.holds.specs.Promise.{WaitIsOver, Promised}
use Rattle.holds.proofs.HoldLaws.{asked_is, noted_each}
use Rattle.holds.proofs.PrintLaws.{printed_noted, wait_over_at, may_parts, may_5, may_17, may_18}
use Rattle.holds.proofs.Noting.{announced_begun}
use Rattle.holds.proofs.Follows.{Follows, opened_with, taken_follows, printed_follows, opened_follows, noted_begun, taken_noted}

module _ (k : Settings) (within : within_limits k ≡ true) where
  abbrev pub few : k.desks ≤ 16
  few = (limits k within).desks.1

  module _ (actions : List Action) (h : Hold) (area : List ℕ) (g : Follows k few actions h area) where
    same : h.floor.settings ≡ k
    same = opened_with k few actions h area g

    one_of_64 : (e : ℕ) → e < k.entries → e < 64
    one_of_64 e low = lt_of_lt_of_le low (limits k within).entries.1

    begins : (e : ℕ) → e < k.entries → (T : ℕ) → AnnouncedBy k e actions T → begun_at h e ≡ true
    begins e low T announced =
        rw same (announced_begun k few e actions (sticker_at h.stickers e).announced (noted_at h e) (g.noting e (one_of_64 e low)) T announced)

    noted : (e : ℕ) → e < k.entries → begun_at h e ≡ true → (T : ℕ) × (noted_at h e ≡ Some T) × FirstBy k e actions T
    noted e low b = (g.noting e (one_of_64 e low)).first (rw (sym same) b)

    -- the shape says so
    unnoted : (e : ℕ) → e < k.entries → begun_at h e ≡ false → noted_at h e ≡ None
    unnoted e low b = go (noted_at h e) refl (noted_each h g.fit.noted e (one_of_64 e low)).noted
      where
        go : (o : Option ℕ) → noted_at h e ≡ o → noted_fits (begun_at h e) h.floor.clock o ≡ true → noted_at h e ≡ None
        go None is fits = is
        go (Some T) is fits = clash (begun_at h e) (and_left (begun_at h e) (nat_le T h.floor.clock) fits) b

    -- the wait is over for the hold where it is over for the rules
    over_rules : (e : ℕ) → e < k.entries → wait_over_at h e ≡ true → WaitIsOver k e actions
    over_rules e low over =
        let b : begun_at h e ≡ true = and_left (begun_at h e) (is_past h.floor.settings h.floor.clock (noted_at h e)) over in
        let past : is_past h.floor.settings h.floor.clock (noted_at h e) ≡ true = and_right (begun_at h e) (is_past h.floor.settings h.floor.clock (noted_at h e)) over in
        let (T, is, first) = noted e low b in
        let last : nat_lt (T + wait k) h.floor.clock ≡ true =
        subst (λ (q : Settings). nat_lt (T + wait q) h.floor.clock ≡ true) same (subst (λ (o : Option ℕ). is_past h.floor.settings h.floor.clock o ≡ true) is past) in
        let late : T + wait k < h.floor.clock = ltb-true (T + wait k) h.floor.clock last in
        let clock : h.floor.clock ≡ (floor_after k actions).clock = ap (λ (s : State). s.clock) g.state in
        (T, first.0, omega (arith, late, clock))

    rules_over : (e : ℕ) → e < k.entries → WaitIsOver k e actions → wait_over_at h e ≡ true
    rules_over e low (T, announced, late) =
        let b = begins e low T announced in
        let (t, is, first) = noted e low b in
        let soon : t ≤ T = first.1 T announced in
        let clock : h.floor.clock ≡ (floor_after k actions).clock = ap (λ (s : State). s.clock) g.state in
        and_both (begun_at h e) (is_past h.floor.settings h.floor.clock (noted_at h e)) b
        (subst (λ (q : Settings). is_past q h.floor.clock (noted_at h e) ≡ true) (sym same) (subst (λ (o : Option ℕ). is_past k h.floor.clock o ≡ true) (sym is)
        (lt-ltb (t + wait k) h.floor.clock (omega (arith, soon, late, clock)))))

    beyond : (e : ℕ) → k.entries ≤ e → may_print h area e ≡ Err NoEntry
    beyond e high = may_5 h area e g.fit.room g.fit.floor g.fit.noted (rw same high)

    low_here : (e : ℕ) → e < k.entries → e < h.floor.settings.entries
    low_here e low = rw same low

    early : (e : ℕ) → e < k.entries → (WaitIsOver k e actions → ⊥) → may_print h area e ≡ Err WaitNotOver
    early e low not_over =
        ⊎_elim (λ t. absurd (not_over (over_rules e low t))) (λ f. may_17 h area e g.fit.room g.fit.floor g.fit.noted (low_here e low) f) (decided (wait_over_at h e))

    -- the wait is what makes it safe
    listed : (e : ℕ) → may_print h area e ≡ Ok tt → OnEveryGoodList e (state_of h.floor area)
    listed e z =
        let p = may_parts h area e z in
        let low : e < k.entries = rw (sym same) p.low in
        let (T, announced, late) = over_rules e low p.over in
        subst (OnEveryGoodList e) (sym g.state) (wait_is_enough k within e low actions T announced late)

    pub promised : Promised k actions h area
    promised =
        record {
          floor = g.state;
          action = λ r. rw (asked_is h area g.fit (action_of r)) (ap (λ (s : State). acted s (action_of r)) g.state);
          begins = begins;
          noted = noted;
          unnoted = unnoted;
          listed = listed;
          beyond = beyond;
          early = early;
          over = λ e low waited. may_18 h area e g.fit.room g.fit.floor g.fit.noted (low_here e low) (rules_over e low waited);
        }

  -- ---- steps one after another

  steps_follow : (actions : List Action) (o : Standing) → Follows k few actions o.hold o.area → (steps : List Step)
      → Follows k few (actions ++ actions_of steps) (left_by o steps).hold (left_by o steps).area
  steps_follow actions o g [] = rw append-nil g
  steps_follow actions o g (action r ∷ steps) =
      let o' = taken o (action_of r) in
      subst (λ (all : List Action). Follows k few all (left_by o' steps).hold (left_by o' steps).area) (append_assoc actions (asks_for (action_of r)) (actions_of steps))
      (steps_follow (actions ++ asks_for (action_of r)) o' (taken_follows k few actions o.hold o.area g (action_of r)) steps)
  steps_follow actions o g (print e ∷ steps) =
      steps_follow actions (record { hold = printed o.hold o.area e; area = o.area }) (printed_follows k few actions o.hold o.area g e) steps

  noted_on : (actions : List Action) (o : Standing) → Follows k few actions o.hold o.area → (e T : ℕ) → e < 64 → noted_at o.hold e ≡ Some T → (steps : List Step)
      → noted_at (left_by o steps).hold e ≡ Some T
  noted_on actions o g e T low is [] = is
  noted_on actions o g e T low is (action r ∷ steps) =
      noted_on (actions ++ asks_for (action_of r)) (taken o (action_of r)) (taken_follows k few actions o.hold o.area g (action_of r)) e T low
      ((taken_noted k few actions o.hold o.area g e low (action_of r) (noted_begun k few actions o.hold o.area g e low T is)).1 ∙ is) steps
  noted_on actions o g e T low is (print c ∷ steps) =
      noted_on actions (record { hold = printed o.hold o.area c; area = o.area }) (printed_follows k few actions o.hold o.area g c) e T low
      ((printed_noted o.hold o.area c e).1 ∙ is) steps

-- ---- from an opening

module _ (area : List ℕ) (r : Record) (k : Settings) (opens : opening area r ≡ Ok k) where
  abbrev within : within_limits k ≡ true
  within = opening_limits area r k opens

  begin : Follows k (few k within) [] (opened_hold area r).hold (opened_hold area r).area
  begin = subst (λ x. Follows k (few k within) [] (new_hold (floor_opened x)) (area_opened area x)) (sym opens) (opened_follows k within (few k within))

  pub hold_promised : (steps : List Step) → let o = left_by (opened_hold area r) steps in Promised k (actions_of steps) o.hold o.area
  hold_promised steps =
      let o = left_by (opened_hold area r) steps in
      promised k within (actions_of steps) o.hold o.area (steps_follow k within [] (opened_hold area r) begin steps)

  pub noted_stays : (steps more : List Step) (e T : ℕ) → e < k.entries → let o = left_by (opened_hold area r) steps in noted_at o.hold e ≡ Some T → noted_at (left_by o more).hold e ≡ Some T
  noted_stays steps more e T low is =
      let o = left_by (opened_hold area r) steps in
      noted_on k within (actions_of steps) o (steps_follow k within [] (opened_hold area r) begin steps) e T (lt_of_lt_of_le low (limits k within).entries.1) is more
