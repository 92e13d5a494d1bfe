-- Laws of what `to_csv` writes.
use Rattle.std.proofs.Common.{◌≡◌, refl, ap, ◌∙◌, Bool, true, false, ℕ, ◌%◌, List, [], length, take, eqb, ltb, Result, Ok, Err, arith}
use Rattle.std.proofs.lemmas.List.{take-append-le, take_all}
use Rattle.rules.specs.declared.Refusal.{Refusal}
use Rattle.rules.specs.declared.Refusal.TheVariants.{PlaceTooShort}
use Rattle.tables.specs.Tables.{Placed, put_into, text_of, written_into}
use Rattle.to_csv.specs.Input.{sequence_into}
use Rattle.to_csv.specs.Text.{refusal_text}
use Rattle.to_csv.specs.Written.{fitting, whole_records, written_of, rows_in, line_in, rows_of, line_of}

-- what stands in the place of what was written, or why nothing does
abbrev found : Result ℕ Refusal → List ℕ → Result (List ℕ) Refusal
found (Ok long) place = Ok (take long place)
found (Err refusal) place = Err refusal

abbrev found_in : Placed Refusal → Result (List ℕ) Refusal
found_in p = found p.answer p.place

found_put : (text place : List ℕ) (short : Bool) → length place ≡ 208896 → ltb 208896 (length text) ≡ short → found_in (put_into PlaceTooShort text place) ≡ fitting text
found_put text place true e s = rw (e, s) refl
found_put text place false e s = rw (e, s) (ap Ok (take-append-le (length text) text _ (omega arith) ∙ take_all (length text) text (omega arith)))

found_records : (sequence place : List ℕ) (whole : Bool) → length place ≡ 208896 → eqb (length sequence % 16) 0 ≡ whole → found_in (written_into sequence place) ≡ whole_records sequence
found_records sequence place true e w = rw w (found_put (text_of sequence) place (ltb 208896 (length (text_of sequence))) e refl)
found_records sequence place false e w = rw w refl

found_sequence : (sequence place : List ℕ) (long : Bool) → length place ≡ 208896 → ltb 65536 (length sequence) ≡ long → found_in (sequence_into sequence place) ≡ written_of sequence
unfolding written_of
found_sequence sequence place true e l = rw l refl
found_sequence sequence place false e l = rw l (found_records sequence place (eqb (length sequence % 16) 0) e refl)

found_written : (sequence place after : List ℕ) (answer : Result ℕ Refusal) → length place ≡ 208896 → answer ≡ (sequence_into sequence place).answer → after ≡ (sequence_into sequence place).place
    → found answer after ≡ written_of sequence
found_written sequence place after answer e a p = rw (a, p) (found_sequence sequence place (ltb 65536 (length sequence)) e refl)

-- what was written into a place long enough for a text: so many bytes, or nothing
pub rows_told : (sequence place after : List ℕ) (long : ℕ) → length place ≡ 208896 → Ok long ≡ (sequence_into sequence place).answer → after ≡ (sequence_into sequence place).place → take long after ≡ rows_of sequence
rows_told sequence place after long e a p = ap rows_in (found_written sequence place after (Ok long) e a p)

pub no_line_told : (sequence place after : List ℕ) (long : ℕ) → length place ≡ 208896 → Ok long ≡ (sequence_into sequence place).answer → after ≡ (sequence_into sequence place).place → [] ≡ line_of sequence
no_line_told sequence place after long e a p = ap line_in (found_written sequence place after (Ok long) e a p)

pub no_rows_told : (sequence place after : List ℕ) (refusal : Refusal) → length place ≡ 208896 → Err refusal ≡ (sequence_into sequence place).answer → after ≡ (sequence_into sequence place).place → [] ≡ rows_of sequence
no_rows_told sequence place after refusal e a p = ap rows_in (found_written sequence place after (Err refusal) e a p)

pub line_told : (sequence place after : List ℕ) (refusal : Refusal) → length place ≡ 208896 → Err refusal ≡ (sequence_into sequence place).answer → after ≡ (sequence_into sequence place).place → refusal_text refusal ≡ line_of sequence
line_told sequence place after refusal e a p = ap line_in (found_written sequence place after (Err refusal) e a p)
