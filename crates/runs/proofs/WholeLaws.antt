-- A whole sequence: what its opening leaves, and the run from there. Assumes nothing.
use Rattle.std.proofs.Common.{◌≡◌, ℕ, ◌-◌, List, length, take, drop, Some, Ok, Err, is_ok, refl, sym, ◌∙◌, arith}
use Rattle.std.proofs.lemmas.Grind.{common_steps}
use Rattle.sets.proofs.Tests.{cond_true}
use Rattle.rules.specs.declared.Refusal.{Refusal}
use Rattle.floors.specs.declared.Floor.{Floor}
use Rattle.floors.specs.Floors.{opened, floor_opened, area_opened}
use Rattle.runs.specs.Runs.{Went, begun, ended, all_asked, went_on, whole_opening, whole_begun, whole_of}
use Rattle.runs.proofs.FloorLaws.{opened_ok, opened_err}

pub all_after : (bytes : List ℕ) (n : ℕ) → take (length bytes - n) (drop n bytes) ≡ drop n bytes
all_after bytes n = grind (arith, common_steps)

-- fl and left are the floor and the area that the opening left
module _ (area bytes : List ℕ) (fl : Floor) (left : List ℕ) (floors : fl ≡ floor_opened (whole_opening area bytes)) (areas : left ≡ area_opened area (whole_opening area bytes)) where
  pub whole_opens : Ok tt ≡ opened (whole_opening area bytes) → (w : Went) → w ≡ went_on (begun fl left) (all_asked (drop 16 bytes)) → w ≡ whole_of area bytes
  whole_opens e w went =
      (rw (floors, areas) at went)
      ∙ sym (cond_true (is_ok (whole_opening area bytes)) (went_on (whole_begun area bytes) (all_asked (drop 16 bytes))) (ended (whole_opening area bytes) (whole_begun area bytes)) (opened_ok (whole_opening area bytes) e))

  pub whole_refused : (refusal : Refusal) → Err refusal ≡ opened (whole_opening area bytes) → record { ran = record { count = 0; new_sources = 0; refusal = Some refusal }; floor = fl; area = left } ≡ whole_of area bytes
  whole_refused refusal e = let is = opened_err (whole_opening area bytes) refusal e in rw (floors, areas, is) refl
