-- All that `to_csv` writes of a sequence. Assumes nothing.
use Rattle.std.specs.Prelude.{◌≡◌, if◌then◌else◌, List, [], ℕ, ◌%◌, ◌==◌, nat_lt, length, take, Result, Ok, Err}
use Rattle.std.proofs.Common.{ap}
use Rattle.rules.specs.declared.Refusal.{Refusal}
use Rattle.rules.specs.declared.Refusal.TheVariants.{Length, PlaceTooShort}
use Rattle.tables.specs.Tables.{text_of}
use Rattle.reports.specs.Input.{of_input}
use Rattle.reports.proofs.InputLaws.{of_input-take}
use Rattle.to_csv.specs.Text.{refusal_text}

-- a text of at most 208,896 bytes
abbrev pub fitting : List ℕ → Result (List ℕ) Refusal
fitting text = if nat_lt 208896 (length text) then Err PlaceTooShort else Ok text

abbrev pub whole_records : List ℕ → Result (List ℕ) Refusal
whole_records sequence = if length sequence % 16 == 0 then fitting (text_of sequence) else Err Length

-- WHAT IS WRITTEN of a sequence: too long a sequence is refused, whatever its bytes are
unfoldable pub written_of : List ℕ → Result (List ℕ) Refusal
written_of sequence = of_input 65536 sequence (Err Length) (whole_records sequence)

-- to standard output: the rows, and nothing of a refusal
abbrev pub rows_in : Result (List ℕ) Refusal → List ℕ
rows_in (Ok rows) = rows
rows_in (Err refusal) = []

-- to standard error: the line of a refusal, or nothing
abbrev pub line_in : Result (List ℕ) Refusal → List ℕ
line_in (Ok rows) = []
line_in (Err refusal) = refusal_text refusal

abbrev pub rows_of : List ℕ → List ℕ
rows_of sequence = rows_in (written_of sequence)

abbrev pub line_of : List ℕ → List ℕ
line_of sequence = line_in (written_of sequence)

-- it is enough to read one byte more than a sequence may have
written_of-take : (sequence : List ℕ) → written_of (take 65537 sequence) ≡ written_of sequence
unfolding written_of
written_of-take sequence = of_input-take 65536 sequence _ whole_records

pub rows_of-take : (sequence : List ℕ) → rows_of (take 65537 sequence) ≡ rows_of sequence
rows_of-take sequence = ap rows_in (written_of-take sequence)

pub line_of-take : (sequence : List ℕ) → line_of (take 65537 sequence) ≡ line_of sequence
line_of-take sequence = ap line_in (written_of-take sequence)
