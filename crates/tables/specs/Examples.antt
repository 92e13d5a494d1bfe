-- The examples that RFC 4180, section 2, gives with its rules 1, 2, 5, 6 and 7, each with the fields of its first row and the text after
-- it; and texts that its grammar does not have.
use Rattle.std.specs.Prelude.{◌≡◌, false, List, [], ◌∷◌, ◌++◌, ℕ, ⊤}
use Rattle.tables.specs.Grammar.{found, comma, cr, lf, quote, row_of}

pub record Example : Type 0 where
  pub text : List ℕ
  pub fields : List (List ℕ)
  pub after : List ℕ

-- three times one byte
abbrev three : ℕ → List ℕ
three byte = byte ∷ byte ∷ byte ∷ []

abbrev in_quotes : List ℕ → List ℕ
in_quotes text = quote ∷ (text ++ (quote ∷ []))

abbrev row_of_three : List ℕ → List ℕ → List ℕ → List ℕ
row_of_three x y z = x ++ (comma ∷ []) ++ y ++ (comma ∷ []) ++ z

abbrev line_end : List ℕ
line_end = cr ∷ lf ∷ []

-- zzz,yyy,xxx
abbrev second : List ℕ
second = row_of_three (three 122) (three 121) (three 120)

unfoldable pub examples : List Example
examples =
    -- rule 1: aaa,bbb,ccc CRLF zzz,yyy,xxx CRLF
    record {
      text = row_of_three (three 97) (three 98) (three 99) ++ line_end ++ second ++ line_end;
      fields = three 97 ∷ three 98 ∷ three 99 ∷ [];
      after = second ++ line_end;
    }
    -- rule 2: zzz,yyy,xxx
    ∷ record { text = second; fields = three 122 ∷ three 121 ∷ three 120 ∷ []; after = [] }
    -- rule 5: "aaa","bbb","ccc" CRLF zzz,yyy,xxx
    ∷ record {
      text = row_of_three (in_quotes (three 97)) (in_quotes (three 98)) (in_quotes (three 99)) ++ line_end ++ second;
      fields = three 97 ∷ three 98 ∷ three 99 ∷ [];
      after = second;
    }
    -- rule 6: "aaa","b CRLF bb","ccc" CRLF zzz,yyy,xxx
    ∷ record {
      text = row_of_three (in_quotes (three 97)) (in_quotes ((98 ∷ []) ++ line_end ++ (98 ∷ 98 ∷ []))) (in_quotes (three 99)) ++ line_end ++ second;
      fields = three 97 ∷ ((98 ∷ []) ++ line_end ++ (98 ∷ 98 ∷ [])) ∷ three 99 ∷ [];
      after = second;
    }
    -- rule 7: "aaa","b""bb","ccc"
    ∷ record {
      text = row_of_three (in_quotes (three 97)) (in_quotes (98 ∷ quote ∷ quote ∷ 98 ∷ 98 ∷ [])) (in_quotes (three 99));
      fields = three 97 ∷ (98 ∷ quote ∷ 98 ∷ 98 ∷ []) ∷ three 99 ∷ [];
      after = [];
    }
    ∷ []

unfoldable pub broken_texts : List (List ℕ)
broken_texts =
    -- a quote within a field without quotes: b"b
    (98 ∷ quote ∷ 98 ∷ [])
    -- a byte after the closing quote: "b"b
    ∷ (in_quotes (98 ∷ []) ++ (98 ∷ []))
    -- an open quote: "b
    ∷ (quote ∷ 98 ∷ [])
    -- a line feed alone, and a carriage return alone
    ∷ (98 ∷ lf ∷ 98 ∷ [])
    ∷ (98 ∷ cr ∷ [])
    -- a tab, and a byte of another alphabet
    ∷ (9 ∷ [])
    ∷ (195 ∷ 164 ∷ [])
    ∷ []

unfoldable pub AllRead : List Example → Type 0
AllRead [] = ⊤
AllRead (x ∷ xs) = (row_of x.text ≡ found x.fields x.after) × AllRead xs

unfoldable pub AllBroken : List (List ℕ) → Type 0
AllBroken [] = ⊤
AllBroken (text ∷ texts) = ((row_of text).allowed ≡ false) × AllBroken texts
