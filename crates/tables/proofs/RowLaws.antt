-- A row goes on after each comma, and the rows of a text one after another: laws that do not speak of the most fields or rows.
use Rattle.std.proofs.Common.{◌≡◌, refl, ap, ℕ, zero, suc, ◌≤◌, ◌<◌, ◌⊎◌, inl, inr, if◌then◌else◌, ◌==◌, List, [], ◌∷◌, length, drop, length-drop, Result, arith}
use Rattle.sets.proofs.Tests.{cond_both, le_or_lt}
use Rattle.rules.specs.declared.Refusal.{Refusal}
use Rattle.records.specs.declared.Record.{Record}
use Rattle.tables.specs.declared.fields.Ending.{Ending}
use Rattle.tables.specs.declared.fields.Ending.TheVariants.{Another, Last, Broken}
use Rattle.tables.specs.Grammar.{Front, ◌before◌, broken, comma, field_of, ending_of, after_ending, rest_of, row_in, row_of}
use Rattle.tables.specs.Rows.{record_in, rows_in, rows_of}
use Rattle.tables.proofs.EndsLaws.{Ends, ends-none, ends-ends, ends-short, field-ends, ending-ends}

-- the text after a field and its ending
abbrev pub left_of : List ℕ → List ℕ
left_of text = after_ending (field_of text).after

pub left-ends : (text : List ℕ) → Ends (left_of text) text
left-ends text = ends-ends (ending-ends (field_of text).after) (field-ends text)

-- ---- each field but the last of a text takes a byte

ending_takes : (text : List ℕ) → 0 < length text → length (after_ending text) < length text
ending_takes [] some = absurd (omega arith)
ending_takes (byte ∷ text) some =
    cond_both (λ (after : List ℕ). length after < suc (length text)) (byte == comma) text (drop 1 text)
    (λ t. omega arith) (λ f. omega (arith, length-drop 1 text))

left_shorter : (text : List ℕ) → 0 < length text → length (left_of text) < length text
left_shorter text some = go (le_or_lt (length (field_of text).after) 0)
  where
    go : (length (field_of text).after ≤ 0) ⊎ (0 < length (field_of text).after) → length (left_of text) < length text
    go (inl h) = omega (arith, ends-short (ending-ends (field_of text).after))
    go (inr h) = omega (arith, ending_takes (field_of text).after h, ends-short (field-ends text))

comma-there : (text : List ℕ) → ending_of text ≡ Another → 0 < length text
comma-there [] e = absurd (cc)
comma-there (byte ∷ text) e = omega arith

pub another_shorter : (text : List ℕ) → ending_of (field_of text).after ≡ Another → length (left_of text) < length text
another_shorter text e = left_shorter text (omega (arith, comma-there (field_of text).after e, ends-short (field-ends text)))

-- ---- so its most fields are never reached

-- a row by its first field, once the row after it is known
abbrev pub row_by : List ℕ → Front (List ℕ) → Front (List ℕ)
row_by text more =
    (if (field_of text).allowed then (field_of text).holds before rest_of (ending_of (field_of text).after) more (left_of text) else broken)

-- only a comma asks for the row after it
by-comma : (text : List ℕ) {more other : Front (List ℕ)} → (ending_of (field_of text).after ≡ Another → more ≡ other) → row_by text more ≡ row_by text other
by-comma text {more} {other} h =
    ap (λ (rest : Front (List ℕ)). if (field_of text).allowed then (field_of text).holds before rest else broken) (go (ending_of (field_of text).after) h)
  where
    go : (ending : Ending) → (ending ≡ Another → more ≡ other) → rest_of ending more (left_of text) ≡ rest_of ending other (left_of text)
    go Another h = h refl
    go Last h = refl
    go Broken h = refl

enough : (most more : ℕ) (text : List ℕ) → length text < most → length text < more → row_in most text ≡ row_in more text
unfolding row_in
enough zero more text h g = absurd (omega arith)
enough (suc most) zero text h g = absurd (omega arith)
enough (suc most) (suc more) text h g =
    by-comma text (λ e. enough most more (left_of text) (omega (arith, another_shorter text e)) (omega (arith, another_shorter text e)))

pub row-by : (text : List ℕ) → row_of text ≡ row_by text (row_of (left_of text))
unfolding row_of row_in
row-by text = by-comma text (λ e. enough (length text) (suc (length (left_of text))) (left_of text) (another_shorter text e) (omega arith))

-- ---- what a row leaves

row_in-ends : (most : ℕ) (text : List ℕ) → Ends (row_in most text).after text
unfolding row_in
row_in-ends zero text = ends-none text
row_in-ends (suc most) text =
    cond_both (λ (row : Front (List ℕ)). Ends row.after text) (field_of text).allowed
    ((field_of text).holds before rest_of (ending_of (field_of text).after) (row_in most (left_of text)) (left_of text)) broken
    (λ t. go (ending_of (field_of text).after) (row_in-ends most (left_of text))) (λ f. ends-none text)
  where
    go : (ending : Ending) → Ends (row_in most (left_of text)).after (left_of text) → Ends (rest_of ending (row_in most (left_of text)) (left_of text)).after text
    go Another h = ends-ends h (left-ends text)
    go Last h = left-ends text
    go Broken h = ends-none text

pub row_ends : (text : List ℕ) → Ends (row_of text).after text
unfolding row_of
row_ends text = row_in-ends (suc (length text)) text

pub row_shorter : (text : List ℕ) → 0 < length text → length (row_of text).after < length text
row_shorter text some =
    rw (row-by text)
    (cond_both (λ (row : Front (List ℕ)). length row.after < length text) (field_of text).allowed
    ((field_of text).holds before rest_of (ending_of (field_of text).after) (row_of (left_of text)) (left_of text)) broken
    (λ t. go (ending_of (field_of text).after)) (λ f. some))
  where
    go : (ending : Ending) → length (rest_of ending (row_of (left_of text)) (left_of text)).after < length text
    go Another = omega (arith, ends-short (row_ends (left_of text)), left_shorter text some)
    go Last = left_shorter text some
    go Broken = some

-- ---- row after row

rows_enough : (most more : ℕ) (text : List ℕ) → length text ≤ most → length text ≤ more → rows_in most text ≡ rows_in more text
rows_enough zero zero [] h g = refl
rows_enough zero (suc more) [] h g = refl
rows_enough (suc most) zero [] h g = refl
rows_enough (suc most) (suc more) [] h g = refl
rows_enough zero more (byte ∷ text) h g = absurd (omega arith)
rows_enough (suc most) zero (byte ∷ text) h g = absurd (omega arith)
rows_enough (suc most) (suc more) (byte ∷ text) h g =
    let less : length (row_of (byte ∷ text)).after < suc (length text) = row_shorter (byte ∷ text) (omega arith) in
    ap (λ (rows : List (Result Record Refusal)). record_in (row_of (byte ∷ text)) ∷ rows)
    (rows_enough most more (row_of (byte ∷ text)).after (omega arith) (omega arith))

pub rows_none : (text : List ℕ) → length text ≡ 0 → rows_of text ≡ []
unfolding rows_of
rows_none [] e = refl
rows_none (byte ∷ text) e = absurd (omega arith)

pub rows_next : (text : List ℕ) → 0 < length text → rows_of text ≡ record_in (row_of text) ∷ rows_of (row_of text).after
unfolding rows_of
rows_next [] some = absurd (omega arith)
rows_next (byte ∷ text) some =
    let less : length (row_of (byte ∷ text)).after < suc (length text) = row_shorter (byte ∷ text) some in
    ap (λ (rows : List (Result Record Refusal)). record_in (row_of (byte ∷ text)) ∷ rows)
    (rows_enough (length text) (length (row_of (byte ∷ text)).after) (row_of (byte ∷ text)).after (omega arith) (omega arith))
