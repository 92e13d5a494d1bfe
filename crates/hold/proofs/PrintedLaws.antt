-- Laws of what `hold` prints.
use Rattle.std.proofs.Common.{◌≡◌, refl, ℕ, ◌^◌, ◌<◌, ◌≤◌, List, length, replicate}
use Rattle.rules.specs.declared.TheConstants.Settings.{MOST_NOTES}
use Rattle.rules.specs.Rules.{last_number}
use Rattle.holds.specs.declared.Hold.{Hold}
use Rattle.holds.specs.declared.sequences.Taken.{Taken}
use Rattle.hold.specs.Input.{input_taken}
use Rattle.hold.specs.Text.{hold_text}
use Rattle.hold.specs.Printed.{printed}
use Rattle.reports.proofs.LengthLaws.{last_number_most}
use Rattle.hold.proofs.InputLaws.{Left}
use Rattle.hold.proofs.LengthLaws.{hold_text_most, left_numbers}

pub printed_of : (area after input : List ℕ) (taken : Taken) (h : Hold) → area ≡ replicate MOST_NOTES 0
    → taken ≡ (input_taken area input).taken → h ≡ (input_taken area input).left.hold → after ≡ (input_taken area input).left.area
    → printed input ≡ hold_text taken.count (last_number taken.refusal) h after
unfolding printed
printed_of area after input taken h e t f a = rw (t, f, a, e) refl

-- what is printed fits its place
pub printed_most : (area after input : List ℕ) (taken : Taken) (h : Hold) → area ≡ replicate MOST_NOTES 0
    → taken ≡ (input_taken area input).taken → h ≡ (input_taken area input).left.hold → after ≡ (input_taken area input).left.area
    → taken.count < 2 ^ 64 → Left (record { hold = h; area = after }) → length (printed input) ≤ 5613
printed_most area after input taken h e t f a c left =
    rw (printed_of area after input taken h e t f a) (hold_text_most h after (left_numbers h after left) taken.count (last_number taken.refusal) c (last_number_most taken.refusal))
