-- Two results that a promise allows are equal. Assumes nothing.
use Rattle.std.specs.Prelude.{◌≡◌, ℕ, List, length, Option, Result}
use Rattle.sets.proofs.Tests.{one_result}
use Rattle.rules.specs.Rules.{earliest}
use Rattle.notes.specs.declared.posting.NoRoom.{NoRoom}
use Rattle.notes.specs.Area.{laid}
use Rattle.notes.specs.Posting.{count_or_no_room, laid_or_kept}

-- of the search
pub found_one : (i j e : ℕ) (ns : List ℕ) (place place' : Option ℕ) → place ≡ earliest i j e ns → place' ≡ earliest i j e ns → place ≡ place'
found_one i j e ns place place' p p' = one_result p p'

-- of what leaves the notes ns
pub holds_one : (w : ℕ) (area ns left left' : List ℕ) (count count' : ℕ) → count ≡ length ns → left ≡ laid w area ns → count' ≡ length ns → left' ≡ laid w area ns
    → (count ≡ count') × (left ≡ left')
holds_one w area ns left left' count count' p q p' q' = (one_result p p', one_result q q')

-- of what leaves the notes ns where they have room
pub posts_one : (w : ℕ) (area ns left left' : List ℕ) (answer answer' : Result ℕ NoRoom) → answer ≡ count_or_no_room area ns → left ≡ laid_or_kept w area ns
    → answer' ≡ count_or_no_room area ns → left' ≡ laid_or_kept w area ns → (answer ≡ answer') × (left ≡ left')
posts_one w area ns left left' answer answer' p q p' q' = (one_result p p', one_result q q')
