-- Two results that a promise of a written text allows are equal. Assumes nothing.
use Rattle.std.proofs.Common.{◌≡◌, ℕ, List, Some}
use Rattle.std.specs.Io.KnownBytes.{Appends}
use Rattle.sets.proofs.Tests.{one_result}

-- of what is appended to known bytes
pub appends_one : (old text new new' : List ℕ) → Appends (Some old) (Some new) text → Appends (Some old) (Some new') text → new ≡ new'
appends_one old text new new' p q = one_result p q
