-- Laws of what is made of an input of which not all is read.
use Rattle.std.proofs.Common.{◌≡◌, sym, ℕ, List, take, Option, None, Some, IfSome}

-- what is made of the bytes read is what is made of all the bytes, where no more of them than were read count
pub made_of_all : {A : Type 0} (f : List ℕ → A) (most : ℕ) → ((xs : List ℕ) → f (take most xs) ≡ f xs) → (known : Option (List ℕ)) (read : List ℕ)
    → IfSome known (λ xs. read ≡ take most xs) → (P : A → Type 0) → P (f read) → IfSome known (λ xs. P (f xs))
made_of_all f most enough None read is P p = tt
made_of_all f most enough (Some xs) read is P p = rw (sym (enough xs), sym is) p
