-- What is proved of a floor and its area, each under the name of the function in src/theorems.rt that says it.
use Rattle.std.specs.Prelude.{◌≡◌, ◌≤◌, IsTrue, List, ℕ, length, Err}
use Rattle.rules.specs.declared.Settings.{Settings}
use Rattle.rules.specs.declared.Action.{Action}
use Rattle.rules.specs.declared.Refusal.{Refusal}
use Rattle.rules.specs.Rules.{within_limits, fresh, next}
use Rattle.records.specs.declared.Record.{Record}
use Rattle.notes.specs.Area.{laid}
use Rattle.floors.specs.declared.Floor.{Floor}
use Rattle.floors.specs.Floors.{state_of, floor_of, in_shape, asked, acted, floor_after, area_after}

-- a floor that counts no more notes than its area has
abbrev pub FloorIsItsState : Type 0
FloorIsItsState = (fl : Floor) (area : List ℕ) → fl.waiting ≤ length area → floor_of (state_of fl area) ≡ fl

-- what a step leaves, as its clauses say it
abbrev pub floor_left : Floor → List ℕ → Action → Floor
floor_left fl area m = floor_of (next (state_of fl area) m)

abbrev pub area_left : Floor → List ℕ → Action → List ℕ
area_left fl area m = laid fl.waiting area (next (state_of fl area) m).notes

abbrev pub StepIsNext : Type 0
StepIsNext = (fl : Floor) (area : List ℕ) (m : Action) → state_of (floor_left fl area m) (area_left fl area m) ≡ next (state_of fl area) m

abbrev pub OpenedIsFresh : Type 0
OpenedIsFresh = (k : Settings) (area : List ℕ) → state_of (floor_of (fresh k)) area ≡ fresh k

abbrev pub OpenedIsInShape : Type 0
OpenedIsInShape = (k : Settings) (area : List ℕ) → IsTrue (within_limits k) → IsTrue (in_shape (floor_of (fresh k)) area)

abbrev pub ShapeIsKept : Type 0
ShapeIsKept =
    (fl : Floor) (area : List ℕ) (m : Action) → IsTrue (in_shape fl area) → IsTrue (in_shape (floor_left fl area m) (area_left fl area m))

-- what is refused of a floor and an area, whatever they hold, leaves both as they were
abbrev pub RefusedChangesNothing : Type 0
RefusedChangesNothing =
    (fl : Floor) (area : List ℕ) (r : Record) (refusal : Refusal) → acted (state_of fl area) (asked fl area r) ≡ Err refusal
    → (floor_after fl area (asked fl area r) ≡ fl) × (area_after fl area (asked fl area r) ≡ area)
