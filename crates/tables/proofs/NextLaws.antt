-- What a text's first field says of its first row, and the loop of `row_at`.
use Rattle.std.proofs.Common.{◌≡◌, refl, sym, ap, ◌∙◌, ℕ, ◌+◌, ◌-◌, ◌≤◌, ◌<◌, ◌⊎◌, inl, inr, min, Bool, true, false, List, [], ◌∷◌, length, drop, take, map, slice_set, length-drop, Option, Result, Err, arith}
use Rattle.std.proofs.lemmas.List.{take_rest, drop_min, drop-drop}
use borrow.Author.Tests.{ne_eqb}
use Rattle.sets.proofs.Tests.{decided}
use Rattle.rules.specs.declared.Refusal.{Refusal}
use Rattle.rules.specs.declared.Refusal.TheVariants.{NotCsv}
use Rattle.records.specs.declared.Record.{Record}
use Rattle.tables.specs.declared.fields.Ending.{Ending}
use Rattle.tables.specs.declared.fields.Ending.TheVariants.{Another, Last, Broken}
use Rattle.tables.specs.declared.fields.Field.{Field}
use Rattle.tables.specs.declared.rows.Row.{Row}
use Rattle.tables.specs.Grammar.{Front, found, ◌before◌, broken, field_of, ending_of, row_of}
use Rattle.tables.specs.Numbers.{number_in}
use Rattle.tables.specs.Fields.{ended_field, first_field}
use Rattle.tables.specs.Rows.{Columns, numbers_fit, record_in, row_at, with_number, with_fields, no_columns, kept_record}
use Rattle.tables.proofs.EndsLaws.{ends-short, ends-rest, field-ends, ending-ends}
use Rattle.tables.proofs.RowLaws.{left_of, left-ends, another_shorter, row-by}

-- ---- a field, and the row that begins with it

record Begun (text : List ℕ) (number : Option ℕ) (long : ℕ) (row : Front (List ℕ)) : Type 0 where
  begins : row_of text ≡ (field_of text).holds before row
  holds : number ≡ number_in (field_of text).holds
  within : long ≤ length text

-- how a row goes on after its first field
abbrev GoesOn : List ℕ → Option ℕ → ℕ → Ending → Type 0
GoesOn text number long Another = Begun text number long (row_of (drop long text)) × (0 < long)
GoesOn text number long Last = Begun text number long (found [] (drop long text))
GoesOn text number long Broken = ((row_of text).allowed ≡ false) × ((row_of text).after ≡ []) × (long ≡ 0)

module _ (text : List ℕ) where
  abbrev after : List ℕ
  after = (field_of text).after

  -- how many bytes a field and its ending take
  long-is : (length text - length after) + (length after - length (left_of text)) ≡ length text - length (left_of text)
  long-is = omega (arith, ends-short (field-ends text), ends-short (ending-ends after))

  by-ending : (field_of text).allowed ≡ true → (ending : Ending) → ending_of after ≡ ending
      → let field = ended_field ending (number_in (field_of text).holds) (length text - length (left_of text)) in
      GoesOn text field.number field.length field.ending
  by-ending t Another e = (
    record { begins = row-by text ∙ rw (t, e, ends-rest (left-ends text)) refl; holds = refl; within = omega arith },
    omega (arith, another_shorter text e),
  )
  by-ending t Last e = record { begins = row-by text ∙ rw (t, e, ends-rest (left-ends text)) refl; holds = refl; within = omega arith }
  by-ending t Broken e =
      let is : row_of text ≡ (field_of text).holds before broken = row-by text ∙ rw (t, e) refl in
      (ap (λ (row : Front (List ℕ)). row.allowed) is, ap (λ (row : Front (List ℕ)). row.after) is, refl)

  by-allowed : ((field_of text).allowed ≡ true) ⊎ ((field_of text).allowed ≡ false) → GoesOn text (first_field text).number (first_field text).length (first_field text).ending
  by-allowed (inl t) = rw (t, long-is) (by-ending t (ending_of after) refl)
  by-allowed (inr f) =
      let is : row_of text ≡ broken = row-by text ∙ rw f refl in
      rw f (ap (λ (row : Front (List ℕ)). row.allowed) is, ap (λ (row : Front (List ℕ)). row.after) is, refl)

goes_on : (text : List ℕ) {field : Field} → field ≡ first_field text → GoesOn text field.number field.length field.ending
goes_on text is = rw is (by-allowed text (decided (field_of text).allowed))

takes-within : (text : List ℕ) (number : Option ℕ) (long : ℕ) (ending : Ending) → GoesOn text number long ending → long ≤ length text
takes-within text number long Another g = g.0.within
takes-within text number long Last g = g.within
takes-within text number long Broken g = omega (arith, g.2)

-- ---- what was kept of a row's fields is its record

with_fields-count : (kept : Columns) (fields : List (List ℕ)) → (with_fields kept fields).count ≡ kept.count + length fields
with_fields-count kept [] = omega arith
with_fields-count kept (field ∷ fields) = omega (arith, with_fields-count (with_number kept (number_in field)) fields)

other-record : (fields : List (List ℕ)) (after : List ℕ) → (length fields ≡ 8 → ⊥) → kept_record (with_fields no_columns fields) ≡ record_in (found fields after)
other-record fields after other =
    rw (ne_eqb (with_fields no_columns fields).count 8 (λ e. other (omega (arith, e, with_fields-count no_columns fields))), ne_eqb (length fields) 8 other) refl

kept-record : (fields : List (List ℕ)) (after : List ℕ) → kept_record (with_fields no_columns fields) ≡ record_in (found fields after)
kept-record (kind ∷ desk ∷ other ∷ entry ∷ a ∷ b ∷ c ∷ remark ∷ []) after =
    go (decided (numbers_fit (map number_in (kind ∷ desk ∷ other ∷ entry ∷ a ∷ b ∷ c ∷ remark ∷ []))))
  where
    go : (numbers_fit (map number_in (kind ∷ desk ∷ other ∷ entry ∷ a ∷ b ∷ c ∷ remark ∷ [])) ≡ true)
        ⊎ (numbers_fit (map number_in (kind ∷ desk ∷ other ∷ entry ∷ a ∷ b ∷ c ∷ remark ∷ [])) ≡ false)
        → kept_record (with_fields no_columns (kind ∷ desk ∷ other ∷ entry ∷ a ∷ b ∷ c ∷ remark ∷ []))
        ≡ record_in (found (kind ∷ desk ∷ other ∷ entry ∷ a ∷ b ∷ c ∷ remark ∷ []) after)
    go (inl t) = rw t refl
    go (inr f) = rw f refl
kept-record fields after = other-record fields after (λ e. absurd (omega arith))

allowed-record : (row : Front (List ℕ)) → row.allowed ≡ true → kept_record (with_fields no_columns row.holds) ≡ record_in row
allowed-record row t = kept-record row.holds row.after ∙ rw t refl

broken-record : (row : Front (List ℕ)) → row.allowed ≡ false → Err NotCsv ≡ record_in row
broken-record row f = rw f refl

-- ---- fields up to a place were read, and the row is what they and the row from there on come to

record Seen : Type 0 where
  allowed : Bool
  kept : Columns
  after : List ℕ

abbrev seen : Columns → Front (List ℕ) → Seen
seen kept row = record { allowed = row.allowed; kept = with_fields kept row.holds; after = row.after }

pub record ReadTo (text : List ℕ) (place : ℕ) (kept : Columns) (at : ℕ) : Type 0 where
  pub within : at ≤ length text
  pub counted : kept.count ≤ at
  pub row : seen kept (row_of (drop at text)) ≡ seen no_columns (row_of (drop place text))

module _ (text : List ℕ) (place : ℕ) where
  row-is : (from : List ℕ) {answer : Result Record Refusal} {next : ℕ} → answer ≡ record_in (row_of from) → next ≡ length text - length (row_of from).after
      → record { answer = answer; next = next } ≡ (let r : Row = record { answer = record_in (row_of from); next = length text - length (row_of from).after } in r)
  row-is from e f = rw (e, f) refl

  pub read_none : {at : ℕ} → at ≡ min place (length text) → ReadTo text place no_columns at
  read_none is = rw is (record { within = omega arith; counted = omega arith; row = rw drop_min refl })

  module _ {kept : Columns} {at : ℕ} (so : ReadTo text place kept at) {field : Field} (is : field ≡ first_field (take (length text - at) (drop at text))) where
    goes : GoesOn (drop at text) field.number field.length field.ending
    goes = goes_on (drop at text) (is ∙ ap first_field (take_rest text at))

    pub next-within : at + field.length ≤ length text
    next-within = omega (arith, takes-within (drop at text) field.number field.length field.ending goes, length-drop at text, so.within)

    pub next_less : field.ending ≡ Another → length text - (at + field.length) < length text - at
    next_less e =
        let g : GoesOn (drop at text) field.number field.length Another = (rw e at goes) in
        omega (arith, next-within, g.1)

    -- the field's number is kept
    kept-one : {row : Front (List ℕ)} → Begun (drop at text) field.number field.length row
        → seen (with_number kept field.number) row ≡ seen no_columns (row_of (drop place text))
    kept-one b = rw b.holds (sym (rw b.begins refl) ∙ so.row)

    module _ {numbers : List (Option ℕ)} (is-kept : numbers ≡ slice_set kept.numbers kept.count field.number) where
      abbrev now : Columns
      now = record { numbers = numbers; count = kept.count + 1 }

      kept-is : now ≡ with_number kept field.number
      kept-is = rw is-kept refl

      pub read_next : field.ending ≡ Another → ReadTo text place now (at + field.length)
      read_next e =
          let g : GoesOn (drop at text) field.number field.length Another = (rw e at goes) in
          rw kept-is (record { within = next-within; counted = omega (arith, so.counted, g.1); row = rw (← drop-drop field.length at text) (kept-one g.0) })

      pub read-last : field.ending ≡ Last → {answer : Result Record Refusal} → answer ≡ kept_record now → record { answer = answer; next = at + field.length } ≡ row_at text place
      read-last e r =
          let g : GoesOn (drop at text) field.number field.length Last = (rw e at goes) in
          let row = row_of (drop place text) in
          let same = kept-one g in
          let kept-all : with_number kept field.number ≡ with_fields no_columns row.holds = ap (λ (s : Seen). s.kept) same in
          let left : drop field.length (drop at text) ≡ row.after = ap (λ (s : Seen). s.after) same in
          row-is (drop place text) (r ∙ ap kept_record (kept-is ∙ kept-all) ∙ allowed-record row (sym (ap (λ (s : Seen). s.allowed) same)))
          (omega (arith, ap length left, length-drop field.length (drop at text), length-drop at text, next-within))

    pub read-broken : field.ending ≡ Broken → record { answer = Err NotCsv; next = length text } ≡ row_at text place
    read-broken e =
        let g : GoesOn (drop at text) field.number field.length Broken = (rw e at goes) in
        let row = row_of (drop place text) in
        let left : (row_of (drop at text)).after ≡ row.after = ap (λ (s : Seen). s.after) so.row in
        row-is (drop place text) (broken-record row (sym (ap (λ (s : Seen). s.allowed) so.row) ∙ g.0)) (omega (arith, ap length left, ap length g.1))
