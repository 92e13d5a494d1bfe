-- Digits read one by one come to the number that they spell.
use Rattle.std.proofs.Common.{◌≡◌, refl, ◌∙◌, ℕ, ◌+◌, ◌-◌, ◌*◌, ◌^◌, ◌≤◌, ◌<◌, ◌==◌, ◌⊎◌, inl, inr, min, if◌then◌else◌, true, false, List, [], ◌∷◌, ◌++◌, drop, suc, get_or, Option, Some, None, Result, Ok, Err, nat_lt, arith}
use mathlib.Core.Bool.{and-false}
use borrow.Author.Tests.{lt-ltb, le-ltb, eqb-true}
use Rattle.std.specs.Result.{OkIff, result_ok}
use Rattle.std.proofs.lemmas.List.Sums.{take_while-cons}
use Rattle.std.specs.Char.{is_ascii_digit}
use Rattle.std.specs.Str.{all_ascii_digits}
use Rattle.std.specs.List.{prefix_len, take_while}
use Rattle.sets.proofs.Tests.{decided, le_or_lt}
use Rattle.tables.specs.Numbers.{spelled, value_after, value_of, number_in, read_digits}

-- numbers that 32 bits do not hold come to such numbers
value-same : (x y : ℕ) (digits : List ℕ) → min x (2 ^ 32) ≡ min y (2 ^ 32) → min (value_after x digits) (2 ^ 32) ≡ min (value_after y digits) (2 ^ 32)
value-same x y [] e = e
value-same x y (byte ∷ digits) e = value-same (10 * x + (byte - 48)) (10 * y + (byte - 48)) digits (omega arith)

-- a digit in front
module _ (byte : ℕ) (text : List ℕ) (t : is_ascii_digit byte ≡ true) where
  pub front-digit : take_while is_ascii_digit (byte ∷ text) ≡ byte ∷ take_while is_ascii_digit text
  front-digit = take_while-cons is_ascii_digit byte text ∙ rw t refl

  pub past-digit : drop (prefix_len is_ascii_digit (byte ∷ text)) (byte ∷ text) ≡ drop (prefix_len is_ascii_digit text) text
  past-digit = let one : 1 + prefix_len is_ascii_digit text ≡ suc (prefix_len is_ascii_digit text) = omega arith in rw (t, one) refl

read-digits : (value : ℕ) (text : List ℕ) → value ≤ 2 ^ 32 → read_digits value text ≡ min (value_after value (take_while is_ascii_digit text)) (2 ^ 32)
read-digits value [] small = omega arith
read-digits value (byte ∷ text) small =
    let next : ℕ = min (10 * value + (byte - 48)) (2 ^ 32) in
    go (decided (is_ascii_digit byte))
    (read-digits next text (omega arith) ∙ value-same next (10 * value + (byte - 48)) (take_while is_ascii_digit text) (omega arith))
  where
    go : (is_ascii_digit byte ≡ true) ⊎ (is_ascii_digit byte ≡ false)
        → read_digits (min (10 * value + (byte - 48)) (2 ^ 32)) text ≡ min (value_after (10 * value + (byte - 48)) (take_while is_ascii_digit text)) (2 ^ 32)
        → read_digits value (byte ∷ text) ≡ min (value_after value (take_while is_ascii_digit (byte ∷ text))) (2 ^ 32)
    go (inl t) later = rw (front-digit byte text t, t) later
    go (inr f) later = rw f (omega arith)

pub all-digits : (text : List ℕ) → all_ascii_digits (take_while is_ascii_digit text) ≡ true
all-digits [] = refl
all-digits (byte ∷ text) = go (decided (is_ascii_digit byte)) (all-digits text)
  where
    go : (is_ascii_digit byte ≡ true) ⊎ (is_ascii_digit byte ≡ false) → all_ascii_digits (take_while is_ascii_digit text) ≡ true
        → all_ascii_digits (take_while is_ascii_digit (byte ∷ text)) ≡ true
    go (inl t) later = rw (front-digit byte text t, t) later
    go (inr f) later = rw f refl

narrowed : {E : Type 0} (r : Result ℕ E) (value : ℕ) → OkIff r (min value (2 ^ 32) < 2 ^ 32) (min value (2 ^ 32)) → result_ok r ≡ (if nat_lt value (2 ^ 32) then Some value else None)
narrowed (Ok x) value is = let same : x ≡ value = omega (arith, is.0, is.1) in rw (same, lt-ltb value (2 ^ 32) (omega (arith, is.0))) refl
narrowed (Err e) value is = rw (le-ltb value (2 ^ 32) (omega (arith, is))) refl

-- one digit, or more of which the first is not 0
front-spelled : (text : List ℕ) → 0 < prefix_len is_ascii_digit text → (1 < prefix_len is_ascii_digit text → get_or text 0 0 ≡ 48 → ⊥)
    → spelled (take_while is_ascii_digit text) ≡ true
front-spelled [] some first = absurd (omega arith)
front-spelled (byte ∷ text) some first = go (decided (is_ascii_digit byte)) (decided (byte == 48)) (le_or_lt (prefix_len is_ascii_digit (byte ∷ text)) 1)
  where
    go : (is_ascii_digit byte ≡ true) ⊎ (is_ascii_digit byte ≡ false) → ((byte == 48) ≡ true) ⊎ ((byte == 48) ≡ false)
        → (prefix_len is_ascii_digit (byte ∷ text) ≤ 1) ⊎ (1 < prefix_len is_ascii_digit (byte ∷ text)) → spelled (take_while is_ascii_digit (byte ∷ text)) ≡ true
    go (inr f) zero one = let none = (rw f at some) in absurd (omega arith)
    go (inl t) (inr other) one = rw (front-digit byte text t, t, all-digits text, other) refl
    go (inl t) (inl zero) (inr more) = absurd (first more (eqb-true byte 48 zero))
    go (inl t) (inl zero) (inl one) =
        let last = (rw t at one) in
        let none : prefix_len is_ascii_digit text ≡ 0 = omega arith in
        rw (front-digit byte text t, t, all-digits text, zero, none) refl

pub digits-number : {E : Type 0} (r : Result ℕ E) {number : Option ℕ} {value : ℕ} (text : List ℕ) → value ≡ read_digits 0 text → OkIff r (value < 2 ^ 32) value
    → 0 < prefix_len is_ascii_digit text → (1 < prefix_len is_ascii_digit text → get_or text 0 0 ≡ 48 → ⊥) → number ≡ result_ok r
    → number ≡ number_in (take_while is_ascii_digit text)
digits-number r {value = value} text is narrow some first e =
    let came : value ≡ min (value_of (take_while is_ascii_digit text)) (2 ^ 32) = is ∙ read-digits 0 text (omega arith) in
    e ∙ narrowed r (value_of (take_while is_ascii_digit text)) (rw came at narrow) ∙ rw (front-spelled text some first) refl

-- ---- what is no number

pub unspelled : (field : List ℕ) → all_ascii_digits field ≡ false → number_in field ≡ None
unspelled [] e = refl
unspelled (byte ∷ field) e = rw e refl

not_all : (field more : List ℕ) (byte : ℕ) → is_ascii_digit byte ≡ false → all_ascii_digits (field ++ byte ∷ more) ≡ false
not_all [] more byte f = rw f refl
not_all (digit ∷ field) more byte f = rw (not_all field more byte f, and-false) refl

pub other_byte : (field more : List ℕ) (byte : ℕ) → is_ascii_digit byte ≡ false → number_in (field ++ byte ∷ more) ≡ None
other_byte field more byte f = unspelled (field ++ byte ∷ more) (not_all field more byte f)
