-- What is handed in, and what an opening leaves. Assumes nothing.
use Rattle.std.proofs.Common.{◌≡◌, ◌∙◌, ℕ, List, [], ◌∷◌, length, nat_eq, Result, Ok, Err, OnErr, is_ok, true, refl, arith}
use Rattle.std.proofs.lemmas.List.{length-replicate}
use mathlib.Core.Bool.{false≢true}
use borrow.Author.Tests.{eqb-true, not-false}
use Rattle.sets.proofs.Tests.{cond_both}
use Rattle.rules.specs.declared.Settings.{Settings}
use Rattle.rules.specs.declared.TheConstants.Settings.{MOST_NOTES}
use Rattle.rules.specs.declared.Action.{Action}
use Rattle.rules.specs.declared.Refusal.{Refusal}
use Rattle.rules.specs.Rules.{next}
use Rattle.rules.specs.Running.{Asked}
use Rattle.rules.specs.NewSources.{sum, desk_sizes}
use Rattle.rules.proofs.CheckLaws.{ok_passed, true_ok}
use Rattle.rules.proofs.NewSources.{fresh_sizes}
use Rattle.notes.proofs.AreaLaws.{length_laid}
use Rattle.floors.specs.declared.Floor.{Floor}
use Rattle.floors.specs.Floors.{in_shape, acted, wrong_area, out_of_shape, handed_in, opened, floor_opened, area_opened}
use Rattle.floors.proofs.Shapes.{in_shape_waiting, step_in_shape}
use Rattle.runs.specs.Runs.{Went, state_in, went_on, carried_out, ended}

-- ---- what is handed in

abbrev pub InShape : Floor → List ℕ → Type 0
InShape fl area = (length area ≡ MOST_NOTES) × (in_shape fl area ≡ true)

pub handed_in_shape : (fl : Floor) (area : List ℕ) → handed_in fl area ≡ Ok tt → InShape fl area
handed_in_shape fl area e =
    let (long, (shaped, _)) = ok_passed (wrong_area area ∷ out_of_shape fl area ∷ []) e in
    (eqb-true (length area) MOST_NOTES (not-false (nat_eq (length area) MOST_NOTES) long), not-false (in_shape fl area) shaped)

pub handed_shape : (fl : Floor) (area : List ℕ) → is_ok (handed_in fl area) ≡ true → in_shape fl area ≡ true
handed_shape fl area e = (handed_in_shape fl area (true_ok (handed_in fl area) e)).1

-- a run leaves in shape what it is handed in shape, refused or not
step_shaped : (w : Went) (m : Action) → InShape w.floor w.area → InShape (carried_out w (Ok m)).floor (carried_out w (Ok m)).area
step_shaped w m (room, shaped) =
    let s = next (state_in w) m in
    let on = step_in_shape w.floor w.area m shaped in
    let few = in_shape_waiting w.floor w.area shaped in
    let more = in_shape_waiting (carried_out w (Ok m)).floor (carried_out w (Ok m)).area on in
    (length_laid w.floor.waiting w.area s.notes (omega (arith, few, room)) (omega (arith, more, room)) ∙ room, on)

pub went_shaped : (xs : List Asked) (w : Went) → InShape w.floor w.area → InShape (went_on w xs).floor (went_on w xs).area
went_shaped [] w h = h
went_shaped (Err refusal ∷ xs) w h = h
went_shaped (Ok m ∷ xs) w h =
    cond_both (λ (v : Went). InShape v.floor v.area) (is_ok (acted (state_in w) (Ok m))) (went_on (carried_out w (Ok m)) xs) (ended (acted (state_in w) (Ok m)) w)
    (λ done. went_shaped xs (carried_out w (Ok m)) (step_shaped w m h)) (λ refused. h)

-- ---- openings

pub opened_ok : (o : Result Settings Refusal) → Ok tt ≡ opened o → is_ok o ≡ true
opened_ok (Ok k) e = refl
opened_ok (Err refusal) e = cc

pub opened_err : (o : Result Settings Refusal) (refusal : Refusal) → Err refusal ≡ opened o → o ≡ Err refusal
opened_err (Ok k) refusal e = cc
opened_err (Err other) refusal e = cc

pub opened_stays : (P : Type 0) (o : Result Settings Refusal) → Ok tt ≡ opened o → OnErr o P
opened_stays P (Ok k) e = tt
opened_stays P (Err refusal) e = cc

pub unopened : (o : Result Settings Refusal) (refusal : Refusal) → Err refusal ≡ opened o → is_ok o ≡ true → ⊥
unopened (Ok k) refusal e z = cc
unopened (Err other) refusal e z = false≢true z

pub opened_room : (area : List ℕ) (o : Result Settings Refusal) → Ok tt ≡ opened o → length (area_opened area o) ≡ 2048
opened_room area (Ok k) e = length-replicate {A = ℕ} 2048 0
opened_room area (Err refusal) e = cc

-- no source was received yet
pub opened_sizes : (o : Result Settings Refusal) → sum desk_sizes (floor_opened o).desks ≡ 0
opened_sizes (Ok k) = fresh_sizes k
opened_sizes (Err refusal) = fresh_sizes (record { desks = 0; faults = 0; entries = 0; message = 0; pass_on = 0; accept = 0 })
