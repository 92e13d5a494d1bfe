-- A run of records is the run of the rules, and leaves the state after the actions that it counts. Assumes nothing.
use Rattle.std.proofs.Common.{◌≡◌, ℕ, zero, suc, ◌+◌, ◌-◌, ◌≤◌, ◌<◌, min, if◌then◌else◌, List, [], ◌∷◌, length, take, Some, None, Result, Ok, Err, is_ok, true, false, refl, sym, ap, ◌∙◌, arith, add-one}
use Rattle.std.specs.Prelude.{⊤}
use mathlib.Core.Path.{subst}
use native.Mathlib.Numerals.{unary_clauses}
use Rattle.rules.specs.declared.Action.{Action}
use Rattle.rules.specs.declared.Refusal.{Refusal}
use Rattle.rules.specs.Rules.{State, answer, next}
use Rattle.rules.specs.NewSources.{is_new}
use Rattle.rules.specs.Running.{Asked, Run, still, one_more, run}
use Rattle.sets.specs.Counting.{bit}
use Rattle.sets.proofs.Tests.{cond_true}
use Rattle.rules.proofs.RunningLaws.{run_next}
use Rattle.agreement.specs.View.{after}
use Rattle.floors.proofs.Shapes.{state_laid}
use Rattle.floors.specs.Floors.{state_of, step_answer, acted, added, floor_after, area_after}
use Rattle.floors.specs.declared.Floor.{Floor}
use Rattle.floors.specs.declared.Told.{Told}
use Rattle.records.specs.Records.{asked_in, record_at}
use Rattle.runs.specs.Runs.{Went, state_in, asked_from, went_on, carried_out, ended}
use Rattle.runs.specs.Calls.{actions, first_actions}
use Rattle.runs.specs.Theorems.{given, by_rules}

pub state_after : (w : Went) (m : Action) → state_in (carried_out w (Ok m)) ≡ next (state_in w) m
state_after w m = state_laid (next (state_in w) m) w.floor.waiting w.area

-- the first of so many records
pub asked_first : (most n k : ℕ) (bytes : List ℕ) → asked_from bytes k (min most n) ≡ take most (asked_from bytes k n)
asked_first zero n k bytes = simp unary_clauses refl
asked_first (suc most) zero k bytes = simp unary_clauses refl
asked_first (suc most) (suc n) k bytes = simp unary_clauses (rw (asked_first most n (suc k) bytes) refl)

-- v, which w went on to, is the rules' run r from there
pub record Same (w v : Went) (r : Run) : Type 0 where
  pub count : v.ran.count ≡ w.ran.count + r.count
  pub total : v.ran.new_sources ≡ w.ran.new_sources + r.total
  pub answer : given v.ran.refusal ≡ r.answer
  pub state : state_in v ≡ r.state

-- one action more in front
module _ (most : ℕ) (m : Action) (xs : List Asked) (w : Went) where
  abbrev s : State
  s = state_in w

  same_next : answer s m ≡ Ok tt → Same (carried_out w (Ok m)) (went_on (carried_out w (Ok m)) (take most xs)) (run most (next s m) xs)
      → Same w (went_on w (take (suc most) (Ok m ∷ xs))) (run (suc most) s (Ok m ∷ xs))
  same_next e same =
      let passes : is_ok (step_answer s m) ≡ true = rw e refl in
      let new : added (step_answer s m) ≡ bit (is_new s m) = rw e refl in
      rw (run_next most s m xs e, cond_true (is_ok (step_answer s m)) (went_on (carried_out w (Ok m)) (take most xs)) (ended (step_answer s m) w) passes)
      (record { count = omega (arith, same.count); total = omega (arith, same.total, new); answer = same.answer; state = same.state })

  same_stop : (refusal : Refusal) → answer s m ≡ Err refusal → Same w (went_on w (take (suc most) (Ok m ∷ xs))) (run (suc most) s (Ok m ∷ xs))
  same_stop refusal e = rw e (record { count = omega arith; total = omega arith; answer = refl; state = refl })

  by_answer : (a : Result ⊤ Refusal) → answer s m ≡ a → Same (carried_out w (Ok m)) (went_on (carried_out w (Ok m)) (take most xs)) (run most (next s m) xs)
      → Same w (went_on w (take (suc most) (Ok m ∷ xs))) (run (suc most) s (Ok m ∷ xs))
  by_answer (Ok _) e same = same_next e same
  by_answer (Err refusal) e same = same_stop refusal e

pub same_run : (most : ℕ) (xs : List Asked) (w : Went) → w.ran.refusal ≡ None → Same w (went_on w (take most xs)) (run most (state_in w) xs)
same_run zero xs w going = record { count = omega arith; total = omega arith; answer = rw going refl; state = refl }
same_run (suc most) [] w going = record { count = omega arith; total = omega arith; answer = rw going refl; state = refl }
same_run (suc most) (Err refusal ∷ xs) w going = record { count = omega arith; total = omega arith; answer = refl; state = refl }
same_run (suc most) (Ok m ∷ xs) w going =
    by_answer most m xs w (answer (state_in w) m) refl
    (subst (λ (t : State). Same (carried_out w (Ok m)) (went_on (carried_out w (Ok m)) (take most xs)) (run most t xs)) (state_after w m) (same_run most xs (carried_out w (Ok m)) going))

-- the state after a run is that after the actions that it counts
module _ where
  pub counted : (most : ℕ) (s : State) (xs : List Asked) → (run most s xs).count ≤ length xs
  counted zero s xs = omega arith
  counted (suc most) s [] = omega arith
  counted (suc most) s (Err refusal ∷ xs) = omega arith
  counted (suc most) s (Ok m ∷ xs) =
      elim (is_ok (answer s m)) as (λ b. (if b then one_more (is_new s m) (run most (next s m) xs) else still (answer s m) s).count ≤ suc (length xs)) [
        | true ↦ (let h = counted most (next s m) xs in omega (arith, h))
        | false ↦ omega arith
      ]

  pub run_state : (most : ℕ) (s : State) (xs : List Asked) → let r = run most s xs in r.state ≡ after next s (actions (take r.count xs))
  run_state zero s xs = refl
  run_state (suc most) s [] = refl
  run_state (suc most) s (Err refusal ∷ xs) = refl
  run_state (suc most) s (Ok m ∷ xs) =
      elim (is_ok (answer s m)) as (λ b. let r = (if b then one_more (is_new s m) (run most (next s m) xs) else still (answer s m) s) in r.state ≡ after next s (actions (take r.count (Ok m ∷ xs)))) [
        | true ↦ run_state most (next s m) xs
        | false ↦ refl
      ]

-- so many records are asked
asked_length : (n k : ℕ) (bytes : List ℕ) → length (asked_from bytes k n) ≡ n
asked_length zero k bytes = refl
asked_length (suc n) k bytes = rw (asked_length n (suc k) bytes) refl

same_is : (v : Went) (r : Run) → v.ran.count ≡ r.count → v.ran.new_sources ≡ r.total → given v.ran.refusal ≡ r.answer → state_in v ≡ r.state → by_rules v ≡ r
same_is v r count total answer state = rw (count, total, answer, state) refl

pub same_rules : (w v : Went) (r : Run) → w.ran.count ≡ 0 → w.ran.new_sources ≡ 0 → Same w v r → by_rules v ≡ r
same_rules w v r none nothing same = same_is v r (omega (arith, none, same.count)) (omega (arith, nothing, same.total)) same.answer same.state

-- a run from where nothing was carried out yet
module _ (w : Went) (none : w.ran.count ≡ 0) (nothing : w.ran.new_sources ≡ 0) (going : w.ran.refusal ≡ None) (bytes : List ℕ) where
  pub run_is_rules : (most n : ℕ) → by_rules (went_on w (asked_from bytes 0 (min most n))) ≡ run most (state_in w) (asked_from bytes 0 n)
  run_is_rules most n =
      rw (asked_first most n 0 bytes) (same_rules w _ _ none nothing (same_run most (asked_from bytes 0 n) w going))

  pub run_leads : (n : ℕ) → let v = went_on w (asked_from bytes 0 n) in state_in v ≡ after next (state_in w) (first_actions bytes v.ran.count)
  run_leads n =
      let r : Run = run n (state_in w) (asked_from bytes 0 n) in
      let v : Went = went_on w (asked_from bytes 0 n) in
      let all : min n n ≡ n = omega arith in
      let same : by_rules v ≡ r = subst (λ (q : ℕ). by_rules (went_on w (asked_from bytes 0 q)) ≡ r) all (run_is_rules n n) in
      let count : v.ran.count ≡ r.count = ap (λ (q : Run). q.count) same in
      let few : min v.ran.count n ≡ v.ran.count = omega (arith, count, asked_length n 0 bytes, counted n (state_in w) (asked_from bytes 0 n)) in
      let first : asked_from bytes 0 v.ran.count ≡ take v.ran.count (asked_from bytes 0 n) = subst (λ (q : ℕ). asked_from bytes 0 q ≡ take v.ran.count (asked_from bytes 0 n)) few (asked_first v.ran.count n 0 bytes) in
      rw first
      (ap (λ (q : Run). q.state) same ∙ run_state n (state_in w) (asked_from bytes 0 n) ∙ ap (λ (q : ℕ). after next (state_in w) (actions (take q (asked_from bytes 0 n)))) (sym count))

-- ---- record by record, as the loop goes

-- after k records, which added so many sources
abbrev pub going : ℕ → ℕ → Floor → List ℕ → Went
going k new fl area = record { ran = record { count = k; new_sources = new; refusal = None }; floor = fl; area = area }

module _ (bytes : List ℕ) (k end : ℕ) where
  pub left_none : (new : ℕ) (fl : Floor) (area : List ℕ) → k ≤ end → end ≤ k → went_on (going k new fl area) (asked_from bytes k (end - k)) ≡ going end new fl area
  left_none new fl area h h' =
      let e : end - k ≡ 0 = omega arith in
      let same : k ≡ end = omega arith in
      rw e (ap (λ (q : ℕ). going q new fl area) same)

  one_left : k < end → asked_from bytes k (end - k) ≡ asked_in (record_at bytes k) ∷ asked_from bytes (k + 1) (end - (k + 1))
  one_left h = let e : end - k ≡ suc (end - (k + 1)) = omega arith in rw (e, add-one k) refl

  module _ (more : k < end) (new : ℕ) (fl : Floor) (area : List ℕ) where
    abbrev x : Asked
    x = asked_in (record_at bytes k)

    abbrev w : Went
    w = going k new fl area

    pub left_next : (t : Told) → Ok t ≡ acted (state_of fl area) x → (new' : ℕ) (fl' : Floor) (area' : List ℕ) → new' ≡ new + bit t.new → fl' ≡ floor_after fl area x → area' ≡ area_after fl area x
        → went_on w (asked_from bytes k (end - k)) ≡ went_on (going (k + 1) new' fl' area') (asked_from bytes (k + 1) (end - (k + 1)))
    left_next t e new' fl' area' news floors areas =
        let ahead : carried_out w x ≡ going (k + 1) new' fl' area' = rw (news, floors, areas, ← e) refl in
        ap (went_on w) (one_left more)
        ∙ cond_true (is_ok (acted (state_of fl area) x)) (went_on (carried_out w x) (asked_from bytes (k + 1) (end - (k + 1)))) (ended (acted (state_of fl area) x) w) (ap is_ok (sym e))
        ∙ ap (λ (v : Went). went_on v (asked_from bytes (k + 1) (end - (k + 1)))) ahead

    pub left_stop : (refusal : Refusal) → Err refusal ≡ acted (state_of fl area) x
        → went_on w (asked_from bytes k (end - k)) ≡ record { ran = record { count = k; new_sources = new; refusal = Some refusal }; floor = fl; area = area }
    left_stop refusal e = ap (went_on w) (one_left more) ∙ rw (← e) refl
