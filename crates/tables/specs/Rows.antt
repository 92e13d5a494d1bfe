-- A row of a table as a record: eight columns without a heading line: kind, desk, other, entry, a, b, c and a remark, which is
-- dropped on reading. The record's form is not looked at.
use Rattle.std.specs.Prelude.{Bool, false, not, if◌then◌else◌, ◌&&◌, ◌==◌, nat_lt, List, [], ◌∷◌, ℕ, zero, suc, ◌+◌, ◌-◌, ◌^◌, length, drop, map, slice_index_or, slice_set, replicate, Option, Some, None, unwrap_or, Result, Ok, Err, ⊤}
use Rattle.rules.specs.Rules.{◌when◌, first_of}
use Rattle.rules.specs.declared.Refusal.{Refusal}
use Rattle.rules.specs.declared.Refusal.TheVariants.{NotEightFields, NotANumber, NotCsv}
use Rattle.records.specs.declared.Record.{Record}
use Rattle.tables.specs.Grammar.{Front, row_of}
use Rattle.tables.specs.Numbers.{number_in}
use Rattle.tables.specs.declared.rows.Row.{Row}

-- a column holds a number below a limit
abbrev pub below : ℕ → Option ℕ → Bool
below limit None = false
below limit (Some number) = nat_lt number limit

-- A byte field takes 0 to 255, and a, b and c any 32-bit number. The numbers are those of the columns in order.
abbrev pub numbers_fit : List (Option ℕ) → Bool
numbers_fit numbers =
    let number : ℕ → Option ℕ = λ k. slice_index_or numbers k None in
    below 256 (number 0)
    && below 256 (number 1)
    && below 256 (number 2)
    && below 256 (number 3)
    && below (2 ^ 32) (number 4)
    && below (2 ^ 32) (number 5)
    && below (2 ^ 32) (number 6)

-- 19: the row is not of eight fields; 20: a number is not in its field's range or spelling; 21: the row is none of the grammar's.
-- 21 goes before 19, and 19 before 20.
abbrev pub row_answer : Front (List ℕ) → Result ⊤ Refusal
row_answer row =
    first_of
    (NotCsv when not row.allowed
    ∷ NotEightFields when not (length row.holds == 8)
    ∷ NotANumber when not (numbers_fit (map number_in row.holds))
    ∷ [])

-- the record of the numbers in the columns
abbrev pub columns : List (Option ℕ) → Record
columns numbers =
    let number : ℕ → ℕ = λ k. unwrap_or (slice_index_or numbers k None) 0 in
    record { kind = number 0; desk = number 1; other = number 2; entry = number 3; a = number 4; b = number 5; c = number 6 }

-- what is given if nothing is refused
abbrev pub given : Result ⊤ Refusal → Record → Result Record Refusal
given (Ok _) r = Ok r
given (Err refusal) r = Err refusal

abbrev pub record_in : Front (List ℕ) → Result Record Refusal
record_in row = given (row_answer row) (columns (map number_in row.holds))

-- the row at a place of a text, and the place of the next one; after a row that breaks the grammar there is none
abbrev pub row_at : List ℕ → ℕ → Row
row_at text place =
    let row = row_of (drop place text) in
    record { answer = record_in row; next = length text - length row.after }

-- the rows of a text, at most so many
abbrev pub rows_in : ℕ → List ℕ → List (Result Record Refusal)
rows_in zero text = []
rows_in (suc most) [] = []
rows_in (suc most) (byte ∷ text) = let row = row_of (byte ∷ text) in record_in row ∷ rows_in most row.after

-- each row takes a byte at least
unfoldable pub rows_of : List ℕ → List (Result Record Refusal)
rows_of text = rows_in (length text) text

-- ---- in the machine: the numbers of a row's first seven columns, as they are read, and how many fields it has

pub record Columns : Type 0 where
  pub numbers : List (Option ℕ)
  pub count : ℕ

abbrev pub with_number : Columns → Option ℕ → Columns
with_number columns number = record { numbers = slice_set columns.numbers columns.count number; count = columns.count + 1 }

-- the columns with the numbers of more fields
abbrev pub with_fields : Columns → List (List ℕ) → Columns
with_fields columns [] = columns
with_fields columns (field ∷ fields) = with_fields (with_number columns (number_in field)) fields

abbrev pub no_columns : Columns
no_columns = record { numbers = replicate 7 None; count = 0 }

-- what a row comes to that has no more fields than these
abbrev pub kept_record : Columns → Result Record Refusal
kept_record kept =
    (if kept.count == 8 then (if numbers_fit kept.numbers then Ok (columns kept.numbers) else Err NotANumber) else Err NotEightFields)
