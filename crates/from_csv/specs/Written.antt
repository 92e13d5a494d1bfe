-- All that `from_csv` writes of a text. Assumes nothing.
use Rattle.std.specs.Prelude.{◌≡◌, if◌then◌else◌, List, [], ℕ, nat_lt, length, take, Result, Ok, Err}
use Rattle.std.proofs.Common.{ap}
use Rattle.tables.specs.declared.reading.BadTable.{BadTable}
use Rattle.tables.specs.declared.reading.BadTable.TheVariants.{NoRoom}
use Rattle.tables.specs.Tables.{table_of}
use Rattle.reports.specs.Input.{of_input}
use Rattle.reports.proofs.InputLaws.{of_input-take}
use Rattle.from_csv.specs.declared.input.NotRead.{NotRead}
use Rattle.from_csv.specs.declared.input.NotRead.TheVariants.{TooLong, Table}
use Rattle.from_csv.specs.Text.{refusal_text}

-- a sequence has at most 65,536 bytes
abbrev pub fitting : Result (List ℕ) BadTable → Result (List ℕ) NotRead
fitting (Ok records) = if nat_lt 65536 (length records) then Err (Table NoRoom) else Ok records
fitting (Err bad) = Err (Table bad)

-- WHAT IS READ of a text: too long a text is refused, whatever its bytes are
unfoldable pub read_of : List ℕ → Result (List ℕ) NotRead
read_of text = of_input 1048576 text (Err TooLong) (fitting (table_of text))

-- to standard output: the records, and nothing of a refusal
abbrev pub records_in : Result (List ℕ) NotRead → List ℕ
records_in (Ok records) = records
records_in (Err refused) = []

-- to standard error: the line of a refusal, or nothing
abbrev pub line_in : Result (List ℕ) NotRead → List ℕ
line_in (Ok records) = []
line_in (Err refused) = refusal_text refused

abbrev pub records_of : List ℕ → List ℕ
records_of text = records_in (read_of text)

abbrev pub line_of : List ℕ → List ℕ
line_of text = line_in (read_of text)

-- it is enough to read one byte more than a text may have
read_of-take : (text : List ℕ) → read_of (take 1048577 text) ≡ read_of text
unfolding read_of
read_of-take text = of_input-take 1048576 text _ (λ text. fitting (table_of text))

pub records_of-take : (text : List ℕ) → records_of (take 1048577 text) ≡ records_of text
records_of-take text = ap records_in (read_of-take text)

pub line_of-take : (text : List ℕ) → line_of (take 1048577 text) ≡ line_of text
line_of-take text = ap line_in (read_of-take text)
