-- All that `floor` prints. Assumes nothing.
use Rattle.std.specs.Prelude.{◌≡◌, List, ℕ, take, replicate}
use Rattle.std.proofs.Common.{ap}
use Rattle.rules.specs.declared.TheConstants.Settings.{MOST_NOTES}
use Rattle.runs.specs.Runs.{Went, whole_of}
use Rattle.reports.specs.Input.{input_went}
use Rattle.reports.proofs.InputLaws.{of_input-take}
use Rattle.rules.specs.Rules.{last_number}
use Rattle.reports.specs.Lines.{outcome_text}

abbrev pub went_text : Went → List ℕ
went_text w = outcome_text w.ran.count (last_number w.ran.refusal) w.floor

-- the report of an input's run, in an area of zeros
unfoldable pub printed : List ℕ → List ℕ
printed input = went_text (input_went (replicate MOST_NOTES 0) input)

-- it is enough to read one byte more than an input may have
pub printed-take : (input : List ℕ) → printed (take 65537 input) ≡ printed input
unfolding printed
printed-take input = ap went_text (of_input-take 65536 input _ (whole_of (replicate MOST_NOTES 0)))
