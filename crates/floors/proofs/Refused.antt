-- What a refused action leaves of a floor and its area: both as they were. Assumes nothing.
use Rattle.std.proofs.Common.{◌≡◌, ℕ, ◌≤◌, Bool, true, List, [], ◌∷◌, length, Result, Ok, Err, nat_eq, subst, refl, sym, ap, ◌∙◌, arith}
use Rattle.std.specs.Prelude.{⊤}
use Rattle.std.proofs.lemmas.Grind.{common_steps}
use borrow.Author.Tests.{eqb-true, not-false}
use Rattle.rules.specs.declared.TheConstants.Settings.{MOST_NOTES}
use Rattle.rules.specs.declared.Action.{Action}
use Rattle.rules.specs.declared.Refusal.{Refusal}
use Rattle.rules.specs.Rules.{State, answer, next}
use Rattle.rules.specs.Running.{Asked}
use Rattle.rules.proofs.CheckLaws.{ok_passed, next_refused}
use Rattle.records.specs.declared.Record.{Record}
use Rattle.records.specs.Records.{action_of}
use Rattle.notes.specs.Area.{laid}
use Rattle.notes.proofs.AreaLaws.{laid_same}
use Rattle.floors.specs.declared.Floor.{Floor}
use Rattle.floors.specs.declared.Told.{Told}
use Rattle.floors.specs.Floors.{state_of, floor_of, in_shape, told, step_answer, wrong_area, out_of_shape, handed_in, once, asked, acted, floor_after, area_after}
use Rattle.floors.proofs.Shapes.{in_shape_waiting}

floor_same : (fl : Floor) (area : List ℕ) → fl.waiting ≤ length area → floor_of (state_of fl area) ≡ fl
floor_same fl area h = grind (arith, common_steps)

told_err : (new : Bool) (a : Result ⊤ Refusal) (refusal : Refusal) → ◌≡◌ {A = Result Told Refusal} (Err refusal) (told new a) → a ≡ Err refusal
told_err new (Ok _) refusal e = cc
told_err new (Err other) refusal e = cc

-- what is asked of a floor is asked of one in shape
pub once_ok : {A : Type 0} (a : Result ⊤ Refusal) (x : Result A Refusal) (m : A) → once a x ≡ Ok m → (a ≡ Ok tt) × (x ≡ Ok m)
once_ok (Ok _) x m e = (refl, e)
once_ok (Err refusal) x m e = (cc, cc)

told_ok : (new : Bool) (a : Result ⊤ Refusal) (t : Told) → told new a ≡ Ok t → a ≡ Ok tt
told_ok new (Ok _) t e = refl
told_ok new (Err refusal) t e = cc

-- what was carried out was carried out on a floor in shape, and by the rules
pub acted_done : (fl : Floor) (area : List ℕ) (x : Asked) (t : Told) → acted (state_of fl area) (once (handed_in fl area) x) ≡ Ok t → (m : Action) → x ≡ Ok m
    → (in_shape fl area ≡ true) × (answer (state_of fl area) m ≡ Ok tt)
acted_done fl area x t done m is = go (once (handed_in fl area) x) refl done
  where
    go : (y : Asked) → once (handed_in fl area) x ≡ y → acted (state_of fl area) y ≡ Ok t → (in_shape fl area ≡ true) × (answer (state_of fl area) m ≡ Ok tt)
    go (Err refusal) e done = (cc, cc)
    go (Ok n) e done =
        let ok = once_ok (handed_in fl area) x n e in
        let passed = ok_passed (wrong_area area ∷ out_of_shape fl area ∷ []) ok.0 in
        let same : n ≡ m = (let p : ◌≡◌ {A = Asked} (Ok n) (Ok m) = sym ok.1 ∙ is in cc) in
        (not-false (in_shape fl area) passed.1.0, subst (λ (q : Action). answer (state_of fl area) q ≡ Ok tt) same (told_ok _ (answer (state_of fl area) n) t done))

-- a refused step
pub step_stays : (fl : Floor) (area : List ℕ) → handed_in fl area ≡ Ok tt → (m : Action) (refusal : Refusal) → Err refusal ≡ step_answer (state_of fl area) m
    → (floor_of (next (state_of fl area) m) ≡ fl) × (laid fl.waiting area (next (state_of fl area) m).notes ≡ area)
step_stays fl area handed m refusal e =
    let passed = ok_passed (wrong_area area ∷ out_of_shape fl area ∷ []) handed in
    let room : length area ≡ 2048 = eqb-true (length area) MOST_NOTES (not-false (nat_eq (length area) MOST_NOTES) passed.0) in
    let few : fl.waiting ≤ length area = omega (arith, room, in_shape_waiting fl area (not-false (in_shape fl area) passed.1.0)) in
    let refused : answer (state_of fl area) m ≡ Err refusal = told_err _ (answer (state_of fl area) m) refusal e in
    let kept : next (state_of fl area) m ≡ state_of fl area = next_refused (state_of fl area) m (λ z. cc) in
    (ap floor_of kept ∙ floor_same fl area few, ap (λ (t : State). laid fl.waiting area t.notes) kept ∙ laid_same fl.waiting area few)

-- a refused record
pub record_stays : (fl : Floor) (area : List ℕ) (r : Record) (refusal : Refusal) → Err refusal ≡ acted (state_of fl area) (asked fl area r)
    → (floor_after fl area (asked fl area r) ≡ fl) × (area_after fl area (asked fl area r) ≡ area)
record_stays fl area r refusal = go (asked fl area r) refl
  where
    go : (y : Asked) → asked fl area r ≡ y → Err refusal ≡ acted (state_of fl area) y → (floor_after fl area y ≡ fl) × (area_after fl area y ≡ area)
    go (Err other) is e = (refl, refl)
    go (Ok m) is e = step_stays fl area (once_ok (handed_in fl area) (action_of r) m is).0 m refusal e
