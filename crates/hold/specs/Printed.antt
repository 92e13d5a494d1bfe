-- All that `hold` prints of an input. Assumes nothing.
use Rattle.std.specs.Prelude.{◌≡◌, List, ℕ, take, replicate}
use Rattle.std.proofs.Common.{ap}
use Rattle.rules.specs.declared.TheConstants.Settings.{MOST_NOTES}
use Rattle.reports.proofs.InputLaws.{of_input-take}
use Rattle.rules.specs.Rules.{last_number}
use Rattle.holds.specs.Sequences.{Went, whole_of}
use Rattle.hold.specs.Input.{input_taken}
use Rattle.hold.specs.Text.{hold_text}

abbrev pub went_text : Went → List ℕ
went_text w = hold_text w.taken.count (last_number w.taken.refusal) w.left.hold w.left.area

-- the report of what was taken, in an area of zeros
unfoldable pub printed : List ℕ → List ℕ
printed input = went_text (input_taken (replicate MOST_NOTES 0) input)

-- it is enough to read one byte more than an input may have
pub printed-take : (input : List ℕ) → printed (take 65537 input) ≡ printed input
unfolding printed
printed-take input = ap went_text (of_input-take 65536 input _ (whole_of (replicate MOST_NOTES 0)))
