-- What is proved of holds, each under the name of the function in src/theorems.rt that says it. Assumes nothing.
use Rattle.std.specs.Prelude.{◌≡◌, List, ℕ, ◌≤◌, ◌<◌, drop, Some, Ok, Err}
use Rattle.rules.specs.declared.Settings.{Settings}
use Rattle.rules.specs.declared.Refusal.{Refusal}
use Rattle.rules.specs.Running.{Asked}
use Rattle.records.specs.declared.Record.{Record}
use Rattle.floors.specs.Floors.{opening}
use Rattle.runs.specs.Runs as runs
use Rattle.runs.specs.Calls.{first_actions}
use Rattle.holds.specs.Holds.{Standing, HandedIn, noted_at, answer_to, taken}
use Rattle.holds.specs.Steps.{Step, stepped, left_by, opened_hold, actions_of, times_printed}
use Rattle.holds.specs.Sequences.{Went, whole_of}
use Rattle.holds.specs.Promise.{Promised}

-- ---- any steps from an opening that is carried out, refused ones among them

abbrev pub HoldIsPromised : Type 0
HoldIsPromised =
    (area : List ℕ) (r : Record) (k : Settings) → opening area r ≡ Ok k → (steps : List Step)
    → let o = left_by (opened_hold area r) steps in Promised k (actions_of steps) o.hold o.area

-- whatever is done afterwards
abbrev pub NotedClockStays : Type 0
NotedClockStays =
    (area : List ℕ) (r : Record) (k : Settings) → opening area r ≡ Ok k → (steps more : List Step) (e T : ℕ) → e < k.entries
    → let o = left_by (opened_hold area r) steps in noted_at o.hold e ≡ Some T → noted_at (left_by o more).hold e ≡ Some T

-- at most one print of an entry is carried out, whether the opening was or not
abbrev pub PrintedOnce : Type 0
PrintedOnce = (area : List ℕ) (r : Record) (steps : List Step) (e : ℕ) → times_printed e (opened_hold area r) steps ≤ 1

-- ---- any hold

abbrev pub RefusedChangesNothing : Type 0
RefusedChangesNothing = (o : Standing) (x : Asked) (refusal : Refusal) → answer_to o x ≡ Err refusal → taken o x ≡ o

-- a hold that may be handed in may be handed in again after any step
abbrev pub ShapeIsKept : Type 0
ShapeIsKept = (o : Standing) (step : Step) → HandedIn o → HandedIn (stepped o step)

-- ---- a whole sequence

-- the settings are those of the floor that it leaves, and the actions those of the records that it counts
abbrev pub WholeIsPromised : Type 0
WholeIsPromised =
    (area bytes : List ℕ) → let w = whole_of area bytes in let k = w.left.hold.floor.settings in
    0 < k.entries → Promised k (first_actions (drop 16 bytes) w.taken.count) w.left.hold w.left.area

-- what is seen of the floor
pub record SeenAs (w : Went) (v : runs.Went) : Type 0 where
  pub count : w.taken.count ≡ v.ran.count
  pub refusal : w.taken.refusal ≡ v.ran.refusal
  pub floor : w.left.hold.floor ≡ v.floor
  pub area : w.left.area ≡ v.area

-- it counts, answers and leaves a floor and an area as the library does
abbrev pub WholeIsTheLibrarys : Type 0
WholeIsTheLibrarys = (area bytes : List ℕ) → SeenAs (whole_of area bytes) (runs.whole_of area bytes)
