-- Words and numbers as text. Assumes nothing.
use Rattle.std.specs.Prelude.{List, ◌++◌, ℕ, codes, decimal}

-- a number with a word before it
abbrev pub field_text : List ℕ → ℕ → List ℕ
field_text before n = before ++ decimal n

-- a line of two numbers with a word before each
abbrev pub two_numbers : List ℕ → ℕ → List ℕ → ℕ → List ℕ
two_numbers first x second y = field_text first x ++ (field_text second y ++ codes "\n")
