-- RFC 4180, section 2: its grammar as definitions on lists of bytes, from the bottom up; each has its rule beside it. What they
-- find stands at the front of a text, and is as long as the rule allows.
use Rattle.std.specs.Prelude.{Bool, true, false, if◌then◌else◌, ◌&&◌, ◌||◌, ◌==◌, List, [], ◌∷◌, ℕ, zero, suc, length, slice_index, drop}
use Rattle.std.specs.Int.{is_in_range}
use Rattle.tables.specs.declared.fields.Ending.{Ending}
use Rattle.tables.specs.declared.fields.Ending.TheVariants.{Another, Last, Broken}

-- What is found: whether the grammar allows it, what it holds, and the text after it.
pub record Front (X : Type 0) : Type 0 where
  pub allowed : Bool
  pub holds : List X
  pub after : List ℕ

abbrev pub found : {X : Type 0} → List X → List ℕ → Front X
found holds after = record { allowed = true; holds = holds; after = after }

abbrev pub broken : {X : Type 0} → Front X
broken = record { allowed = false; holds = []; after = [] }

infixr 60 ◌before◌
abbrev pub ◌before◌ : {X : Type 0} → X → Front X → Front X
x before front = record { allowed = front.allowed; holds = x ∷ front.holds; after = front.after }

-- ---- the bytes

-- COMMA = %x2C
abbrev pub comma : ℕ
comma = 44

-- CR = %x0D
abbrev pub cr : ℕ
cr = 13

-- LF = %x0A
abbrev pub lf : ℕ
lf = 10

-- DQUOTE = %x22
abbrev pub quote : ℕ
quote = 34

-- TEXTDATA = %x20-21 / %x23-2B / %x2D-7E
unfoldable pub textdata : ℕ → Bool
textdata byte = is_in_range 32 33 byte || is_in_range 35 43 byte || is_in_range 45 126 byte

-- COMMA / CR / LF
unfoldable pub separator : ℕ → Bool
separator byte = byte == comma || byte == cr || byte == lf

-- TEXTDATA / COMMA / CR / LF
abbrev pub quotable : ℕ → Bool
quotable byte = textdata byte || separator byte

-- ---- a field

-- non-escaped = *TEXTDATA
abbrev pub non_escaped : List ℕ → Front ℕ
non_escaped [] = found [] []
non_escaped (byte ∷ text) = (if textdata byte then byte before non_escaped text else found [] (byte ∷ text))

-- *(TEXTDATA / COMMA / CR / LF / 2DQUOTE); of a doubled quote the field holds one
abbrev pub inside_quotes : List ℕ → Front ℕ
inside_quotes [] = found [] []
inside_quotes (byte ∷ []) = (if quotable byte then found (byte ∷ []) [] else found [] (byte ∷ []))
inside_quotes (byte ∷ next ∷ text) =
    (if quotable byte then byte before inside_quotes (next ∷ text)
    else (if byte == quote && next == quote then quote before inside_quotes text else found [] (byte ∷ next ∷ text)))

-- DQUOTE at the end of an escaped field
abbrev pub closed : Front ℕ → Front ℕ
closed inside = (if slice_index inside.after 0 == quote then found inside.holds (drop 1 inside.after) else broken)

-- field = (escaped / non-escaped)
-- escaped = DQUOTE *(TEXTDATA / COMMA / CR / LF / 2DQUOTE) DQUOTE
abbrev pub field_of : List ℕ → Front ℕ
field_of [] = non_escaped []
field_of (byte ∷ text) = (if byte == quote then closed (inside_quotes text) else non_escaped (byte ∷ text))

-- ---- a row: record = field *(COMMA field), and after it CRLF or the end of the text

-- what the text after a field begins with
abbrev pub ending_of : List ℕ → Ending
ending_of [] = Last
ending_of (byte ∷ text) = (if byte == comma then Another else (if byte == cr && slice_index text 0 == lf then Last else Broken))

-- the text after it
abbrev pub after_ending : List ℕ → List ℕ
after_ending [] = []
after_ending (byte ∷ text) = (if byte == comma then text else drop 1 text)

-- the rest of a row after a field: the fields that follow a comma, none at the row's end
abbrev pub rest_of : Ending → Front (List ℕ) → List ℕ → Front (List ℕ)
rest_of Another more after = more
rest_of Last more after = found [] after
rest_of Broken more after = broken

-- a row of at most so many fields
unfoldable pub row_in : ℕ → List ℕ → Front (List ℕ)
row_in zero text = broken
row_in (suc most) text =
    let field = field_of text in
    let after = after_ending field.after in
    (if field.allowed then field.holds before rest_of (ending_of field.after) (row_in most after) after else broken)

-- each field but the last has a comma after it, so a text's first row has at most one field more than the text has bytes
unfoldable pub row_of : List ℕ → Front (List ℕ)
row_of text = row_in (suc (length text)) text
