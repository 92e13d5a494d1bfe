-- The reader goes from row to row.
use Rattle.std.proofs.Common.{◌≡◌, sym, ◌∙◌, ℕ, ◌-◌, Bool, true, false, nat_le, List, [], ◌∷◌, length, drop, length-drop, arith}
use borrow.Author.Tests.{leb-true, leb-false}
use Rattle.tables.specs.declared.rows.Row.{Row}
use Rattle.tables.specs.Grammar.{row_of}
use Rattle.tables.specs.Rows.{row_at, rows_of}
use Rattle.tables.proofs.EndsLaws.{ends-drop, ends-ends, ends-rest}
use Rattle.tables.proofs.RowLaws.{row_ends, rows_none, rows_next}

module _ (text : List ℕ) (place : ℕ) {done : Bool} (is : done ≡ nat_le (length text) place) where
  pub reader-done : done ≡ true → rows_of (drop place text) ≡ []
  reader-done t = rows_none (drop place text) (omega (arith, leb-true (length text) place (sym is ∙ t), length-drop place text))

  pub reader-next : done ≡ false → {row : Row} → row ≡ row_at text place → rows_of (drop place text) ≡ row.answer ∷ rows_of (drop row.next text)
  reader-next f e =
      let row = row_of (drop place text) in
      let left : drop (length text - length row.after) text ≡ row.after = ends-rest (ends-ends (row_ends (drop place text)) (ends-drop place text)) in
      rw (e, left) (rows_next (drop place text) (omega (arith, leb-false (length text) place (sym is ∙ f), length-drop place text)))
