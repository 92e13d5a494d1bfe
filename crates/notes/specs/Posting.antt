-- What is posted into an area that may have no room for it. The laws are in proofs/. Assumes nothing.
use Rattle.std.specs.Prelude.{◌≡◌, ◌<◌, ◌/◌, ◌%◌, if◌then◌else◌, not, slice_index, List, ℕ, nat_lt, count_by, length, Result, Ok, Err, ⊤}
use Rattle.sets.specs.Sets.{member}
use Rattle.rules.specs.Rules.{note_of, waits, broadcast, broadcasts}
use Rattle.notes.specs.Area.{laid}
use Rattle.notes.specs.declared.posting.NoRoom.{NoRoom}
use Rattle.notes.specs.declared.posting.Sender.{Sender}

-- how many of a list do not wait in ns
unfoldable pub new_count : List ℕ → List ℕ → ℕ
new_count ns xs = count_by (λ x. not (waits ns x)) xs

-- the notes of a sender's broadcast of an entry, and of its broadcasts of the entries of a set below u
abbrev pub broadcast_of : Sender → ℕ → List ℕ
broadcast_of from e = broadcast from.time_out from.source e from.desks

abbrev pub broadcasts_of : Sender → ℕ → ℕ → List ℕ
broadcasts_of from entries u = broadcasts (member entries) from.time_out from.source from.desks u

-- a set tells to which desks below 16 a note of such a broadcast waits in ns, and a list of sets does so for each entry
abbrev pub Tells : ℕ → List ℕ → Sender → ℕ → Type 0
Tells reached ns from e = (j : ℕ) → j < 16 → member reached j ≡ waits ns (note_of from.time_out from.source j e)

abbrev pub AllTell : List ℕ → List ℕ → Sender → Type 0
AllTell reached ns from = (e : ℕ) → e < 64 → Tells (slice_index reached e) ns from e

-- sets of 16 desks each tell so of every desk
abbrev pub ManyTell : List ℕ → List ℕ → Sender → ℕ → Type 0
ManyTell reached ns from e = (j : ℕ) → j < 256 → member (slice_index reached (j / 16)) (j % 16) ≡ waits ns (note_of from.time_out from.source j e)

-- whether the notes ns have room in the area
abbrev pub room_for : List ℕ → List ℕ → Result ⊤ NoRoom
room_for area ns = (if nat_lt (length area) (length ns) then Err (record { would_wait = length ns }) else Ok tt)

-- how many notes wait where the notes ns are to, and that they have no room where they are more than the area's places
abbrev pub count_or_no_room : List ℕ → List ℕ → Result ℕ NoRoom
count_or_no_room area ns = (if nat_lt (length area) (length ns) then Err (record { would_wait = length ns }) else Ok (length ns))

-- the area, in which w notes stood, with the notes ns in their place, and as it was where they have no room
abbrev pub laid_or_kept : ℕ → List ℕ → List ℕ → List ℕ
laid_or_kept w area ns = (if nat_lt (length area) (length ns) then area else laid w area ns)
