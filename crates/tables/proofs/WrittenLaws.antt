-- A row that was written, read at the front of any text: its eight fields, and the same record.
use Rattle.std.proofs.Common.{◌≡◌, refl, ◌∙◌, Bool, if◌then◌else◌, ℕ, zero, suc, ◌/◌, ◌%◌, ◌^◌, ◌≤◌, ◌<◌, ◌⊎◌, inl, inr, true, false, ◌==◌, List, [], ◌∷◌, ◌++◌, length, get_or, append_assoc, length-append, Some, Ok, arith, rules}
use Rattle.std.specs.Char.{is_ascii_digit}
use Rattle.std.specs.Str.{all_ascii_digits}
use Rattle.std.specs.Fmt.{decimal, digits, digits_onto, digit_glyph}
use Rattle.std.proofs.lemmas.Fmt.{decimal_digit, decimal_nonempty, first_decimal, digits_value-decimal}
use Rattle.std.proofs.lemmas.Str.Parse.{IsNumeralModel, numerals_by_fold}
use borrow.Author.Tests.{ne_eqb, lt-ltb}
use Rattle.sets.proofs.Tests.{and_left, and_right, le_or_lt}
use Rattle.records.specs.declared.Record.{Record}
use Rattle.tables.specs.Grammar.{found, ◌before◌, comma, cr, lf, textdata, non_escaped, field_of, row_of}
use Rattle.tables.specs.Numbers.{spelled, value_after, value_of, number_in}
use Rattle.tables.specs.Rows.{record_in, rows_of}
use Rattle.tables.specs.Tables.{row_text}
use Rattle.tables.specs.Theorems.{Fits, written_fields}
use Rattle.tables.proofs.HeldLaws.{digit-text}
use Rattle.tables.proofs.RowLaws.{row-by, rows_next}

-- ---- a number in decimal digits is spelled as a field's number is

numerals : IsNumeralModel (λ ds. all_ascii_digits ds ≡ true) (value_after 0)
numerals = numerals_by_fold _ (search rules) value_after (search rules)

glyph-digit : (d : ℕ) → d < 10 → is_ascii_digit (digit_glyph false d) ≡ true
glyph-digit d small = rw (lt-ltb d 10 small) (grind arith)

-- one digit more, and whether it is the last
one-digit : (last : Bool) (d : ℕ) (after more : List ℕ) → d < 10 → all_ascii_digits after ≡ true
    → (all_ascii_digits (digit_glyph false d ∷ after) ≡ true → all_ascii_digits more ≡ true)
    → all_ascii_digits (if last then digit_glyph false d ∷ after else more) ≡ true
one-digit true d after more small e later = rw (glyph-digit d small) e
one-digit false d after more small e later = later (rw (glyph-digit d small) e)

onto-digits : (k n : ℕ) (after : List ℕ) → all_ascii_digits after ≡ true → all_ascii_digits (digits_onto k 10 false n after) ≡ true
onto-digits zero n after e = e
onto-digits (suc k) n after e =
    one-digit (n / 10 == 0) (n % 10) after _ (omega (arith)) e (onto-digits k (n / 10) (digit_glyph false (n % 10) ∷ after))

decimal-digits : (n : ℕ) → all_ascii_digits (decimal n) ≡ true
unfolding digits
decimal-digits n = onto-digits 64 n [] refl

spelled_by : (ds : List ℕ) → all_ascii_digits ds ≡ true → 0 < length ds → (get_or ds 0 0 ≡ 48) ⊎ (48 < get_or ds 0 0) → (get_or ds 0 0 ≡ 48 → length ds ≡ 1) → spelled ds ≡ true
spelled_by [] all some first one = absurd (omega arith)
spelled_by (byte ∷ bytes) all some (inl z) one = let none : length bytes ≡ 0 = omega (arith, one z) in rw (all, z, none) refl
spelled_by (byte ∷ bytes) all some (inr more) one = rw (all, ne_eqb byte 48 (λ e. omega arith)) refl

decimal-spelled : (n : ℕ) → n < 2 ^ 64 → spelled (decimal n) ≡ true
decimal-spelled n small = go (le_or_lt n 0)
  where
    go : (n ≤ 0) ⊎ (0 < n) → spelled (decimal n) ≡ true
    go (inl z) = let same : n ≡ 0 = omega arith in rw (same, decimal_digit 0 (omega arith)) refl
    go (inr some) =
        let first : 48 < get_or (decimal n) 0 0 = first_decimal n some small in
        spelled_by (decimal n) (decimal-digits n) (decimal_nonempty n small) (inr first) (λ e. absurd (omega arith))

decimal-number : (n : ℕ) → n < 2 ^ 32 → number_in (decimal n) ≡ Some n
decimal-number n small =
    let value : value_of (decimal n) ≡ n = digits_value-decimal numerals n (omega arith) in
    rw (decimal-spelled n (omega arith), value, lt-ltb n (2 ^ 32) small) refl

-- ---- a field: digits and a comma, or none and a line end

plain-digits : (field rest : List ℕ) → all_ascii_digits field ≡ true → non_escaped (field ++ comma ∷ rest) ≡ found field (comma ∷ rest)
unfolding textdata
plain-digits [] rest e = refl
plain-digits (byte ∷ field) rest e =
    rw (digit-text byte (and_left (is_ascii_digit byte) (all_ascii_digits field) e), plain-digits field rest (and_right (is_ascii_digit byte) (all_ascii_digits field) e)) refl

field-digits : (field rest : List ℕ) → all_ascii_digits field ≡ true → field_of (field ++ comma ∷ rest) ≡ found field (comma ∷ rest)
field-digits [] rest e = plain-digits [] rest e
field-digits (byte ∷ field) rest e =
    let digit : is_ascii_digit byte ≡ true = and_left (is_ascii_digit byte) (all_ascii_digits field) e in
    let other : (byte == 34) ≡ false = grind arith in
    rw other (plain-digits (byte ∷ field) rest e)

row-column : (n : ℕ) (rest : List ℕ) → row_of (decimal n ++ comma ∷ rest) ≡ decimal n before row_of rest
row-column n rest = row-by (decimal n ++ comma ∷ rest) ∙ rw (field-digits (decimal n) rest (decimal-digits n)) refl

row-empty : (rest : List ℕ) → row_of (cr ∷ lf ∷ rest) ≡ found ([] ∷ []) rest
unfolding textdata
row-empty rest = row-by (cr ∷ lf ∷ rest)

-- ---- a row

module _ (r : Record) (rest : List ℕ) where
  -- the row with its commas, one after another
  row-apart : row_text r ++ rest
      ≡ decimal r.kind ++ comma ∷ (decimal r.desk ++ comma ∷ (decimal r.other ++ comma ∷ (decimal r.entry ++ comma ∷
      (decimal r.a ++ comma ∷ (decimal r.b ++ comma ∷ (decimal r.c ++ comma ∷ cr ∷ lf ∷ rest))))))
  unfolding row_text
  row-apart = simp append_assoc

  pub row_back : row_of (row_text r ++ rest) ≡ found (written_fields r) rest
  row_back = rw (row-apart, row-column, row-column, row-column, row-column, row-column, row-column, row-column, row-empty) refl

module _ (r : Record) (fits : Fits r) (rest : List ℕ) where
  record_back : record_in (found (written_fields r) rest) ≡ Ok r
  record_back =
      rw (
        decimal-number r.kind (omega (arith, fits.kind)),
        decimal-number r.desk (omega (arith, fits.desk)),
        decimal-number r.other (omega (arith, fits.other)),
        decimal-number r.entry (omega (arith, fits.entry)),
        decimal-number r.a fits.a,
        decimal-number r.b fits.b,
        decimal-number r.c fits.c,
        lt-ltb r.kind 256 (omega (arith, fits.kind)),
        lt-ltb r.desk 256 (omega (arith, fits.desk)),
        lt-ltb r.other 256 (omega (arith, fits.other)),
        lt-ltb r.entry 256 (omega (arith, fits.entry)),
        lt-ltb r.a (2 ^ 32) fits.a,
        lt-ltb r.b (2 ^ 32) fits.b,
        lt-ltb r.c (2 ^ 32) fits.c,
      )
      refl

  row-some : 0 < length (row_text r ++ rest)
  unfolding row_text
  row-some = simp length-append (omega arith)

  pub rows_back : rows_of (row_text r ++ rest) ≡ Ok r ∷ rows_of rest
  rows_back = rows_next (row_text r ++ rest) row-some ∙ rw (row_back, record_back) refl
