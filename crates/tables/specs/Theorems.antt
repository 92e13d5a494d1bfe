-- What is proved of tables, each under the name of the function in src/theorems.rt that says it.
use Rattle.std.specs.Prelude.{◌≡◌, ◌≤◌, ◌<◌, ◌^◌, List, [], ◌∷◌, ◌++◌, ℕ, ◌*◌, ◌%◌, true, length, take, drop, slice_index, slice_index_or, Result, Ok, Err, is_ok}
use Rattle.std.specs.Fmt.{decimal}
use Rattle.rules.specs.declared.Refusal.{Refusal}
use Rattle.records.specs.declared.Record.{Record}
use Rattle.records.specs.Records.{zeros}
use Rattle.tables.specs.declared.reading.BadTable.TheVariants.{BadRow}
use Rattle.tables.specs.Grammar.{found, row_of}
use Rattle.tables.specs.Rows.{rows_of}
use Rattle.tables.specs.Tables.{Placed, table_of, records_of, read_into, row_text, text_of, written_into}
use Rattle.tables.specs.Examples.{examples, broken_texts, AllRead, AllBroken}

-- the RFC's own examples are read as it says, and texts that its grammar does not have are refused
abbrev pub ExamplesAreRead : Type 0
ExamplesAreRead = AllRead examples × AllBroken broken_texts

-- a record's fields fit their types
pub record Fits (r : Record) : Type 0 where
  pub kind : r.kind < 2 ^ 8
  pub desk : r.desk < 2 ^ 8
  pub other : r.other < 2 ^ 8
  pub entry : r.entry < 2 ^ 8
  pub a : r.a < 2 ^ 32
  pub b : r.b < 2 ^ 32
  pub c : r.c < 2 ^ 32

-- the fields of a written row: its numbers and an empty remark
abbrev pub written_fields : Record → List (List ℕ)
written_fields r = decimal r.kind ∷ decimal r.desk ∷ decimal r.other ∷ decimal r.entry ∷ decimal r.a ∷ decimal r.b ∷ decimal r.c ∷ [] ∷ []

-- a written row is read as these, and what stands after it is left
abbrev pub WrittenRowIsRead : Type 0
WrittenRowIsRead = (r : Record) (rest : List ℕ) → row_of (row_text r ++ rest) ≡ found (written_fields r) rest

-- bytes, and a whole number of records
pub record IsSequence (sequence : List ℕ) : Type 0 where
  pub bytes : (i : ℕ) → slice_index sequence i < 2 ^ 8
  pub whole : length sequence % 16 ≡ 0

-- reading what was written gives the same records
abbrev pub WrittenIsReadBack : Type 0
WrittenIsReadBack = (sequence : List ℕ) → IsSequence sequence → table_of (text_of sequence) ≡ Ok sequence

-- how many bytes a call has written
abbrev pub length_given : {E : Type 0} → Result ℕ E → ℕ
length_given (Ok long) = long
length_given (Err refusal) = 0

-- what a call has written
abbrev pub given_by : {E : Type 0} → Placed E → List ℕ
given_by placed = take (length_given placed.answer) placed.place

-- the same at the calls: written into one place and read into another, both long enough
abbrev pub CallsReadBack : Type 0
CallsReadBack =
    (sequence place other : List ℕ) → IsSequence sequence → length (text_of sequence) ≤ length place → length sequence ≤ length other
    → read_into (given_by (written_into sequence place)) other ≡ record { answer = Ok (length sequence); place = sequence ++ drop (length sequence) other }

-- what a call of reading has put into its place is a sequence, so the same holds of it
abbrev pub ReadIsASequence : Type 0
ReadIsASequence = (text place : List ℕ) → IsSequence (given_by (read_into text place))

-- What is said of a refused text: the rows in front of the one that is named are good, and that row is refused so. The records in front
-- of it are as many as its number says, and a sequence.
pub record FirstBad (text : List ℕ) (row : ℕ) (refusal : Refusal) : Type 0 where
  pub good_before : (k : ℕ) → k < row → is_ok (slice_index_or (rows_of text) k (Err refusal)) ≡ true
  pub refused_there : slice_index_or (rows_of text) row (Ok zeros) ≡ Err refusal
  pub long : length (records_of (rows_of text)) ≡ 16 * row
  pub whole : IsSequence (records_of (rows_of text))

-- a text is refused for its first bad row
abbrev pub RefusedForTheFirstBadRow : Type 0
RefusedForTheFirstBadRow = (text : List ℕ) (row : ℕ) (refusal : Refusal) → table_of text ≡ Err (BadRow row refusal) → FirstBad text row refusal

-- a text that is read, written and read again gives the same records
abbrev pub ReadAgain : Type 0
ReadAgain = (text records : List ℕ) → table_of text ≡ Ok records → table_of (text_of records) ≡ Ok records
