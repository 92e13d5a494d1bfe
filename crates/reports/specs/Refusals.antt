-- What a program says of a refusal, as a list of bytes. Assumes nothing.
use Rattle.std.specs.Prelude.{List, ◌++◌, ℕ, Option, Some, None, codes}
use Rattle.rules.specs.declared.Refusal.{Refusal}
use Rattle.rules.specs.Rules.{number_of}
use Rattle.reports.specs.Texts.{field_text}

abbrev pub reason_text : List ℕ → List ℕ
reason_text reason = codes ": " ++ (reason ++ codes "\n")

-- `answer N: ..`
abbrev pub refusal_line : ℕ → List ℕ → List ℕ
refusal_line answer reason = field_text (codes "answer ") answer ++ reason_text reason

-- `answer N row R: ..`
abbrev pub row_refusal_line : ℕ → ℕ → List ℕ → List ℕ
row_refusal_line answer row reason = field_text (codes "answer ") answer ++ (field_text (codes " row ") row ++ reason_text reason)

abbrev pub line_of : Refusal → Option ℕ → List ℕ → List ℕ
line_of refusal None reason = refusal_line (number_of refusal) reason
line_of refusal (Some row) reason = row_refusal_line (number_of refusal) row reason
