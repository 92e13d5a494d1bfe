-- Laws of what `from_csv` writes.
use Rattle.std.proofs.Common.{◌≡◌, refl, ap, ◌∙◌, Bool, true, false, ℕ, List, [], length, take, ltb, Result, Ok, Err, arith}
use Rattle.std.proofs.lemmas.List.{take-append-le, take_all}
use Rattle.tables.specs.declared.reading.BadTable.{BadTable}
use Rattle.tables.specs.Tables.{table_of, table_into}
use Rattle.from_csv.specs.declared.input.NotRead.{NotRead}
use Rattle.from_csv.specs.Input.{length_read, text_into}
use Rattle.from_csv.specs.Text.{refusal_text}
use Rattle.from_csv.specs.Written.{fitting, read_of, records_in, line_in, records_of, line_of}

-- what stands in the place of what was read, or why nothing does
abbrev found : Result ℕ NotRead → List ℕ → Result (List ℕ) NotRead
found (Ok long) place = Ok (take long place)
found (Err refused) place = Err refused

found_put : (records place : List ℕ) (short : Bool) → length place ≡ 65536 → ltb 65536 (length records) ≡ short
    → found (length_read (table_into (Ok records) place).answer) (table_into (Ok records) place).place ≡ fitting (Ok records)
found_put records place true e s = rw (e, s) refl
found_put records place false e s = rw (e, s) (ap Ok (take-append-le (length records) records _ (omega arith) ∙ take_all (length records) records (omega arith)))

found_table : (table : Result (List ℕ) BadTable) (place : List ℕ) → length place ≡ 65536
    → found (length_read (table_into table place).answer) (table_into table place).place ≡ fitting table
found_table (Ok records) place e = found_put records place (ltb 65536 (length records)) e refl
found_table (Err bad) place e = refl

found_text : (text place : List ℕ) (long : Bool) → length place ≡ 65536 → ltb 1048576 (length text) ≡ long → found (text_into text place).answer (text_into text place).place ≡ read_of text
unfolding read_of
found_text text place true e l = rw l refl
found_text text place false e l = rw l (found_table (table_of text) place e)

found_read : (text place after : List ℕ) (answer : Result ℕ NotRead) → length place ≡ 65536 → answer ≡ (text_into text place).answer → after ≡ (text_into text place).place
    → found answer after ≡ read_of text
found_read text place after answer e a p = rw (a, p) (found_text text place (ltb 1048576 (length text)) e refl)

-- what was read into a place long enough for a sequence: so many bytes, or nothing
pub records_told : (text place after : List ℕ) (long : ℕ) → length place ≡ 65536 → Ok long ≡ (text_into text place).answer → after ≡ (text_into text place).place → take long after ≡ records_of text
records_told text place after long e a p = ap records_in (found_read text place after (Ok long) e a p)

pub no_line_told : (text place after : List ℕ) (long : ℕ) → length place ≡ 65536 → Ok long ≡ (text_into text place).answer → after ≡ (text_into text place).place → [] ≡ line_of text
no_line_told text place after long e a p = ap line_in (found_read text place after (Ok long) e a p)

pub no_records_told : (text place after : List ℕ) (refused : NotRead) → length place ≡ 65536 → Err refused ≡ (text_into text place).answer → after ≡ (text_into text place).place → [] ≡ records_of text
no_records_told text place after refused e a p = ap records_in (found_read text place after (Err refused) e a p)

pub line_told : (text place after : List ℕ) (refused : NotRead) → length place ≡ 65536 → Err refused ≡ (text_into text place).answer → after ≡ (text_into text place).place → refusal_text refused ≡ line_of text
line_told text place after refused e a p = ap line_in (found_read text place after (Err refused) e a p)
