-- Laws of what a program makes of its input.
use Rattle.std.proofs.Common.{◌≡◌, refl, ap, Bool, true, false, ℕ, ◌+◌, List, length, take, min, ltb, arith, length-take, ltb-true, ltb-false, lt-ltb}
use Rattle.std.proofs.lemmas.List.{take_all}
use Rattle.reports.specs.Input.{of_input}

cut : {A : Type 0} (most : ℕ) (xs : List ℕ) (refused : A) (f : List ℕ → A) (long : Bool) → ltb most (length xs) ≡ long
    → of_input most (take (most + 1) xs) refused (f (take (most + 1) xs)) ≡ of_input most xs refused (f xs)
cut most xs refused f true e =
    let longer = ltb-true most (length xs) e in
    let read : length (take (most + 1) xs) ≡ min (most + 1) (length xs) = length-take (most + 1) xs in
    let seen : ltb most (length (take (most + 1) xs)) ≡ true = lt-ltb _ _ (omega arith) in
    rw (e, seen) refl
cut most xs refused f false e =
    let shorter = ltb-false most (length xs) e in
    ap (λ read. of_input most read refused (f read)) (take_all (most + 1) xs (omega arith))

-- of too long an input it is enough to read one byte more than an input may have
pub of_input-take : {A : Type 0} (most : ℕ) (xs : List ℕ) (refused : A) (f : List ℕ → A)
    → of_input most (take (most + 1) xs) refused (f (take (most + 1) xs)) ≡ of_input most xs refused (f xs)
of_input-take most xs refused f = cut most xs refused f (ltb most (length xs)) refl
