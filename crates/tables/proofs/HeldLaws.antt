-- What a field holds begins with the digits in front, and is a number only if it ends with them.
use Rattle.std.proofs.Common.{◌≡◌, refl, sym, ap, ◌∙◌, ℕ, ◌<◌, ◌⊎◌, inl, inr, Bool, true, false, not, ◌&&◌, ◌==◌, List, [], ◌∷◌, ◌++◌, length, get_or, drop, append-nil, Option, None, arith}
use Rattle.std.specs.Char.{is_ascii_digit}
use Rattle.std.specs.List.{prefix_len, take_while}
use Rattle.sets.proofs.Tests.{decided}
use Rattle.tables.specs.Grammar.{Front, found, ◌before◌, comma, quote, textdata, quotable, non_escaped, inside_quotes}
use Rattle.tables.specs.Numbers.{number_in}
use Rattle.tables.specs.Fields.{held_of}
use Rattle.tables.proofs.NumberLaws.{other_byte, front-digit, past-digit}
use Rattle.tables.proofs.EndsLaws.{held-ends, ends-short}

pub digit-text : (byte : ℕ) → is_ascii_digit byte ≡ true → textdata byte ≡ true
unfolding textdata
digit-text byte e = grind arith

-- ---- the digits in front

infixr 60 ◌all_before◌
abbrev ◌all_before◌ : List ℕ → Front ℕ → Front ℕ
bytes all_before front = record { allowed = front.allowed; holds = bytes ++ front.holds; after = front.after }

held-text : (quoted : Bool) (byte : ℕ) (text : List ℕ) → textdata byte ≡ true → held_of quoted (byte ∷ text) ≡ byte before held_of quoted text
held-text true byte [] t = rw t refl
held-text true byte (next ∷ text) t = rw t refl
held-text false byte text t = rw t refl

abbrev past_digits : List ℕ → List ℕ
past_digits text = drop (prefix_len is_ascii_digit text) text

held-digits : (quoted : Bool) (text : List ℕ) → held_of quoted text ≡ take_while is_ascii_digit text all_before held_of quoted (past_digits text)
held-digits quoted [] = refl
held-digits quoted (byte ∷ text) = go (decided (is_ascii_digit byte)) (held-digits quoted text)
  where
    go : (is_ascii_digit byte ≡ true) ⊎ (is_ascii_digit byte ≡ false) → held_of quoted text ≡ take_while is_ascii_digit text all_before held_of quoted (past_digits text)
        → held_of quoted (byte ∷ text) ≡ take_while is_ascii_digit (byte ∷ text) all_before held_of quoted (past_digits (byte ∷ text))
    go (inl t) later =
        rw (front-digit byte text t, past-digit byte text t) (held-text quoted byte text (digit-text byte t) ∙ ap (λ (front : Front ℕ). byte before front) later)
    go (inr f) later = rw f refl

-- ---- and what comes after them

-- no digit stands at the front
OtherFirst : List ℕ → Type 0
OtherFirst [] = Unit {0}
OtherFirst (byte ∷ text) = is_ascii_digit byte ≡ false

past-digits : (text : List ℕ) → OtherFirst (past_digits text)
unfolding OtherFirst
past-digits [] = tt
past-digits (byte ∷ text) = go (decided (is_ascii_digit byte)) (past-digits text)
  where
    go : (is_ascii_digit byte ≡ true) ⊎ (is_ascii_digit byte ≡ false) → OtherFirst (past_digits text) → OtherFirst (past_digits (byte ∷ text))
    go (inl t) later = rw (past-digit byte text t) later
    go (inr f) later = rw f f

-- a text either is left whole, or takes a number away
record Other (text : List ℕ) (held : Front ℕ) : Type 0 where
  none : length held.after ≡ length text → held.holds ≡ []
  some : (length held.after ≡ length text → ⊥) → (field : List ℕ) → number_in (field ++ held.holds) ≡ None

left : (text : List ℕ) → Other text (found [] text)
left text = record { none = λ e. refl; some = λ e field. absurd (e refl) }

taken : (text : List ℕ) (byte : ℕ) (front : Front ℕ) → is_ascii_digit byte ≡ false → length front.after < length text → Other text (byte before front)
taken text byte front f h = record { none = λ e. absurd (omega (arith, e)); some = λ e field. other_byte field front.holds byte f }

other : (quoted : Bool) (text : List ℕ) → OtherFirst text → Other text (held_of quoted text)
unfolding OtherFirst
other true [] o = left []
other true (byte ∷ []) o = go (decided (quotable byte))
  where
    go : (quotable byte ≡ true) ⊎ (quotable byte ≡ false) → Other (byte ∷ []) (held_of true (byte ∷ []))
    go (inl t) = rw t (taken (byte ∷ []) byte (found [] []) o (omega arith))
    go (inr f) = rw f (left (byte ∷ []))
other true (byte ∷ next ∷ text) o = go (decided (quotable byte)) (decided (byte == quote && next == quote))
  where
    go : (quotable byte ≡ true) ⊎ (quotable byte ≡ false) → ((byte == quote && next == quote) ≡ true) ⊎ ((byte == quote && next == quote) ≡ false)
        → Other (byte ∷ next ∷ text) (held_of true (byte ∷ next ∷ text))
    go (inl t) d = rw t (taken (byte ∷ next ∷ text) byte (inside_quotes (next ∷ text)) o (omega (arith, ends-short (held-ends true (next ∷ text)))))
    go (inr f) (inl d) = rw (f, d) (taken (byte ∷ next ∷ text) quote (inside_quotes text) refl (omega (arith, ends-short (held-ends true text))))
    go (inr f) (inr d) = rw (f, d) (left (byte ∷ next ∷ text))
other false [] o = left []
other false (byte ∷ text) o = go (decided (textdata byte))
  where
    go : (textdata byte ≡ true) ⊎ (textdata byte ≡ false) → Other (byte ∷ text) (held_of false (byte ∷ text))
    go (inl t) = rw t (taken (byte ∷ text) byte (non_escaped text) o (omega (arith, ends-short (held-ends false text))))
    go (inr f) = rw f (left (byte ∷ text))

-- ---- as `held` has it: the text after the digits, and the text after all that is held

module _ (quoted : Bool) (text : List ℕ) {others rest : List ℕ} (is : others ≡ past_digits text) (left-is : rest ≡ (held_of quoted others).after) where
  pub held-rest : rest ≡ (held_of quoted text).after
  held-rest = left-is ∙ rw (is, held-digits quoted text) refl

  holds : (held_of quoted text).holds ≡ take_while is_ascii_digit text ++ (held_of quoted others).holds
  holds = rw (is, held-digits quoted text) refl

  others-held : Other others (held_of quoted others)
  others-held = other quoted others (rw is (past-digits text))

  pub held-number : {number : Option ℕ} → number ≡ number_in (take_while is_ascii_digit text) → length rest ≡ length others → number ≡ number_in (held_of quoted text).holds
  held-number n same =
      let nothing : (held_of quoted others).holds ≡ [] = others-held.none (sym (ap length left-is) ∙ same) in
      n ∙ rw (holds, nothing, append-nil (take_while is_ascii_digit text)) refl

  pub held-none : (length rest ≡ length others → ⊥) → None ≡ number_in (held_of quoted text).holds
  held-none differ = sym (ap number_in holds ∙ others-held.some (λ e. differ (ap length left-is ∙ e)) (take_while is_ascii_digit text))

-- ---- without quotes

-- a comma is not held
pub comma_left : (quoted : Bool) (others : List ℕ) → not quoted ≡ true → 0 < length others → get_or others 0 0 ≡ comma → others ≡ (held_of quoted others).after
unfolding textdata
comma_left true others unquoted some e = absurd (cc)
comma_left false [] unquoted some e = absurd (omega arith)
comma_left false (byte ∷ others) unquoted some e = rw e refl

pub plain-allowed : (text : List ℕ) → (non_escaped text).allowed ≡ true
plain-allowed [] = refl
plain-allowed (byte ∷ text) = go (decided (textdata byte)) (plain-allowed text)
  where
    go : (textdata byte ≡ true) ⊎ (textdata byte ≡ false) → (non_escaped text).allowed ≡ true → (non_escaped (byte ∷ text)).allowed ≡ true
    go (inl t) later = rw t later
    go (inr f) later = rw f refl
