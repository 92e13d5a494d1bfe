-- What is left to a reader.
use Rattle.std.specs.Prelude.{List, drop, Result}
use Rattle.rules.specs.declared.Refusal.{Refusal}
use Rattle.records.specs.declared.Record.{Record}
use Rattle.tables.specs.Rows.{rows_of}
use Rattle.tables.specs.declared.rows.Rows.{Rows}

-- the rows from its place on
abbrev pub rows_left : Rows → List (Result Record Refusal)
rows_left rows = rows_of (drop rows.place rows.text.now)
