-- The wait, read at the calls: what each call leaves holds the state after the actions that were asked of it. Assumes nothing.
use Rattle.std.proofs.Common.{◌≡◌, ℕ, ◌/◌, min, List, [], ◌∷◌, ◌++◌, length, drop, Result, Ok, Err, true, refl, sym, ap, ◌∙◌, arith, append-nil}
use Rattle.std.specs.Prelude.{⊤}
use Rattle.std.proofs.lemmas.List.{length-replicate}
use mathlib.Core.Path.{subst}
use borrow.Author.Tests.{not-false}
use Rattle.rules.specs.declared.Settings.{Settings}
use Rattle.rules.specs.declared.Action.{Action}
use Rattle.rules.specs.declared.Refusal.{Refusal}
use Rattle.rules.specs.Rules.{State, next, fresh, within_limits, outside, opens}
use Rattle.rules.specs.Running.{Asked, run}
use Rattle.rules.proofs.CheckLaws.{ok_passed}
use Rattle.agreement.specs.View.{after}
use Rattle.agreement.specs.Wait.{LaterThanWait, OnEveryGoodList}
use Rattle.agreement.proofs.WaitIsEnough.{wait_is_enough}
use Rattle.agreement.proofs.AfterLaws.{after_both, settings_after}
use Rattle.records.specs.declared.Record.{Record}
use Rattle.floors.specs.declared.Floor.{Floor}
use Rattle.floors.proofs.Shapes.{opened_in_shape}
use Rattle.floors.specs.Floors.{handed_in, once, within, opening, asked, floor_after, area_after, floor_opened, area_opened}
use Rattle.records.specs.Records.{opening_of}
use Rattle.runs.specs.Runs.{Went, state_in, begun, asked_from, all_asked, went_on, run_of, run_answer, first_of_whole, opening_by, whole_opening, whole_of}
use Rattle.runs.specs.Calls.{Call, one, many, Standing, standing, leaves, actions, actions_of, first_actions, left_by, all_actions}
use Rattle.runs.specs.Theorems.{Waits, state_at, by_rules, IsRun}
use Rattle.runs.proofs.FloorLaws.{handed_in_shape, went_shaped}
use Rattle.runs.proofs.RunLaws.{state_after, run_is_rules, run_leads}

-- ---- one call

asked_leads : (fl : Floor) (area : List ℕ) (x : Asked)
    → state_at (record { floor = floor_after fl area x; area = area_after fl area x }) ≡ after next (state_at (record { floor = fl; area = area })) (actions (x ∷ []))
asked_leads fl area (Ok m) = state_after (begun fl area) m
asked_leads fl area (Err refusal) = refl

pub run_of_leads : (fl : Floor) (area bytes : List ℕ) (most : ℕ)
    → let w = run_of fl area bytes most in state_in w ≡ after next (state_at (record { floor = fl; area = area })) (first_actions bytes w.ran.count)
run_of_leads fl area bytes most = go (run_answer fl area bytes) refl
  where
    go : (a : Result ⊤ Refusal) → run_answer fl area bytes ≡ a → let w = run_of fl area bytes most in state_in w ≡ after next (state_at (record { floor = fl; area = area })) (first_actions bytes w.ran.count)
    go (Ok _) e = rw e (run_leads (begun fl area) refl refl refl bytes (min most (length bytes / 16)))
    go (Err refusal) e = rw e refl

call_leads : (st : Standing) (c : Call) → state_at (leaves st c) ≡ after next (state_at st) (actions_of st c)
call_leads st (one r) = asked_leads st.floor st.area (asked st.floor st.area r)
call_leads st (many bytes most) = run_of_leads st.floor st.area bytes most

calls_lead : (st : Standing) (calls : List Call) → state_at (left_by st calls) ≡ after next (state_at st) (all_actions st calls)
calls_lead st [] = refl
calls_lead st (c ∷ calls) =
    calls_lead (leaves st c) calls ∙ ap (λ (s : State). after next s (all_actions (leaves st c) calls)) (call_leads st c)
    ∙ sym (after_both (state_at st) (actions_of st c) (all_actions (leaves st c) calls))

-- ---- openings

once_ok : {A : Type 0} (a : Result ⊤ Refusal) (x : Result A Refusal) (k : A) → once a x ≡ Ok k → x ≡ Ok k
once_ok (Ok _) x k e = e
once_ok (Err refusal) x k e = cc

once_first : {A : Type 0} (a : Result ⊤ Refusal) (x : Result A Refusal) (k : A) → once a x ≡ Ok k → a ≡ Ok tt
once_first (Ok _) x k e = refl
once_first (Err refusal) x k e = cc

within_ok : (o : Result Settings Refusal) (k : Settings) → within o ≡ Ok k → within_limits k ≡ true
within_ok (Ok k') k e =
    let (limits, _) = ok_passed (outside k' ∷ []) (once_first (opens k') (Ok k') k e) in
    let same : k' ≡ k = (let is : ◌≡◌ {A = Result Settings Refusal} (Ok k') (Ok k) = once_ok (opens k') (Ok k') k e in cc) in
    subst (λ (q : Settings). within_limits q ≡ true) same (not-false (within_limits k') limits)
within_ok (Err refusal) k e = cc

pub opening_limits : (area : List ℕ) (r : Record) (k : Settings) → opening area r ≡ Ok k → within_limits k ≡ true
opening_limits area r k e = within_ok (opening_of r) k (once_ok _ _ k e)

limits_by : (area : List ℕ) (o : Result Record Refusal) (k : Settings) → opening_by area o ≡ Ok k → within_limits k ≡ true
limits_by area (Ok r) k e = opening_limits area r k e
limits_by area (Err refusal) k e = cc

-- ---- a run

pub run_of_is_rules : (fl : Floor) (area bytes : List ℕ) (most : ℕ) → run_answer fl area bytes ≡ Ok tt
    → IsRun (run_of fl area bytes most) (run most (state_at (record { floor = fl; area = area })) (all_asked bytes))
run_of_is_rules fl area bytes most e =
    let n : ℕ = length bytes / 16 in
    let shaped = went_shaped (asked_from bytes 0 (min most n)) (begun fl area) (handed_in_shape fl area (once_first (handed_in fl area) _ tt e)) in
    rw e (record { run = run_is_rules (begun fl area) refl refl refl bytes most n; room = shaped.0; shape = shaped.1 })

-- ---- the wait

-- where actions from the fresh floor led to a state
led : (k : Settings) → within_limits k ≡ true → (moves : List Action) (s : State) → s ≡ after next (fresh k) moves → Waits k moves s
led k limits moves s is e T below announced late =
    subst (OnEveryGoodList e) (sym is) (wait_is_enough k limits e below moves T announced (subst (LaterThanWait k T) is late))

pub wait_at_calls : (area : List ℕ) (r : Record) (k : Settings) → opening area r ≡ Ok k → (calls : List Call)
    → let st : Standing = record { floor = floor_opened (Ok k); area = area_opened area (Ok k) } in Waits k (all_actions st calls) (state_at (left_by st calls))
wait_at_calls area r k e calls =
    let st : Standing = record { floor = floor_opened (Ok k); area = area_opened area (Ok k) } in
    led k (opening_limits area r k e) (all_actions st calls) (state_at (left_by st calls)) (calls_lead st calls)

module _ (area bytes : List ℕ) where
  abbrev w : Went
  w = whole_of area bytes

  -- the actions of the records that it counts
  abbrev moves : List Action
  moves = first_actions (drop 16 bytes) w.ran.count

  module _ (k : Settings) (e : whole_opening area bytes ≡ Ok k) where
    opened_leads : state_in w ≡ after next (fresh k) moves
    opened_leads = rw e (run_leads (begun (floor_opened (Ok k)) (area_opened area (Ok k))) refl refl refl (drop 16 bytes) (length (drop 16 bytes) / 16))

    settings_kept : w.floor.settings ≡ k
    settings_kept = ap (λ (s : State). s.settings) opened_leads ∙ settings_after k moves

  pub wait_after_whole : (calls : List Call) → Waits w.floor.settings (moves ++ all_actions (standing w) calls) (state_at (left_by (standing w) calls))
  wait_after_whole calls = go (whole_opening area bytes) refl
    where
      go : (o : Result Settings Refusal) → whole_opening area bytes ≡ o → Waits w.floor.settings (moves ++ all_actions (standing w) calls) (state_at (left_by (standing w) calls))
      go (Ok k) e =
          subst (λ (q : Settings). Waits q (moves ++ all_actions (standing w) calls) (state_at (left_by (standing w) calls))) (sym (settings_kept k e))
          (led k (limits_by area (first_of_whole area bytes) k e) _ _
          (calls_lead (standing w) calls ∙ ap (λ (s : State). after next s (all_actions (standing w) calls)) (opened_leads k e) ∙ sym (after_both (fresh k) moves (all_actions (standing w) calls))))
      go (Err refusal) e = λ x T below. absurd (let none : w.floor.settings.entries ≡ 0 = rw e refl in omega (arith, none, below))

  pub wait_of_whole : Waits w.floor.settings moves (state_in w)
  wait_of_whole = rw append-nil at (wait_after_whole [])

  pub whole_is_rules : (k : Settings) → whole_opening area bytes ≡ Ok k → IsRun w (run (length (drop 16 bytes) / 16) (fresh k) (all_asked (drop 16 bytes)))
  whole_is_rules k e =
      let n : ℕ = length (drop 16 bytes) / 16 in
      let all : min n n ≡ n = omega arith in
      let st : Went = begun (floor_opened (Ok k)) (area_opened area (Ok k)) in
      let same = subst (λ (q : ℕ). by_rules (went_on st (asked_from (drop 16 bytes) 0 q)) ≡ run n (fresh k) (all_asked (drop 16 bytes))) all (run_is_rules st refl refl refl (drop 16 bytes) n n) in
      let shaped = went_shaped (all_asked (drop 16 bytes)) st (length-replicate {A = ℕ} 2048 0, opened_in_shape k st.area (limits_by area (first_of_whole area bytes) k e)) in
      rw e (record { run = same; room = shaped.0; shape = shaped.1 })
