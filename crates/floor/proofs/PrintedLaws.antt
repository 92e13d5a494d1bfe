-- Laws of what `floor` prints.
use Rattle.std.proofs.Common.{◌≡◌, refl, ℕ, ◌^◌, ◌<◌, ◌≤◌, List, length, replicate, IsTrue, ◌⊎◌}
use Rattle.rules.specs.declared.TheConstants.Settings.{MOST_NOTES}
use Rattle.floors.specs.declared.Floor.{Floor}
use Rattle.floors.specs.Floors.{no_floor, in_shape}
use Rattle.runs.specs.declared.Ran.{Ran}
use Rattle.reports.specs.Input.{input_went}
use Rattle.reports.proofs.LengthLaws.{last_number_most, left_outcome_most}
use Rattle.rules.specs.Rules.{last_number}
use Rattle.reports.specs.Lines.{outcome_text}
use Rattle.floor.specs.Printed.{printed}

pub printed_of : (area input : List ℕ) (ran : Ran) (fl : Floor) → area ≡ replicate MOST_NOTES 0 → ran ≡ (input_went area input).ran → fl ≡ (input_went area input).floor
    → printed input ≡ outcome_text ran.count (last_number ran.refusal) fl
unfolding printed
printed_of area input ran fl e r f = rw (r, f, e) refl

-- what is printed fits its place
pub printed_most : (area input : List ℕ) (ran : Ran) (fl : Floor) (after : List ℕ) → area ≡ replicate MOST_NOTES 0 → ran ≡ (input_went area input).ran → fl ≡ (input_went area input).floor
    → ran.count < 2 ^ 64 → (fl ≡ no_floor) ⊎ IsTrue (in_shape fl after) → length (printed input) ≤ 22813
printed_most area input ran fl after e r f c shape =
    rw (printed_of area input ran fl e r f) (left_outcome_most ran.count (last_number ran.refusal) fl after c (last_number_most ran.refusal) shape)
