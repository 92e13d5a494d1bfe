-- What is proved of the rules, each under the name of the function in src/theorems.rt that says it.
use Rattle.std.specs.Prelude.{◌≡◌, ◌↔◌, false, ℕ, ◌+◌, ◌<◌, List, length, Some, None, Ok, IsTrue}
use Rattle.std.specs.List.{list_all}
use Rattle.sets.specs.Counting.{bit}
use Rattle.rules.specs.declared.Settings.{Settings}
use Rattle.rules.specs.declared.TheConstants.Settings.{MOST_DESKS, MOST_ENTRIES, MOST_TICKS, LAST_TICK, MOST_NOTES}
use Rattle.rules.specs.declared.Action.{Action}
use Rattle.rules.specs.declared.Action.TheVariants.{Receive}
use Rattle.rules.specs.Rules.{State, within_limits, fresh, note_of, time_out, source, destination, entry, waits, speaks_of, earliest, answer, next, in_shape}
use Rattle.rules.specs.NewSources.{is_new, all_sizes, Whole, Kept}
use Rattle.rules.specs.Search.{Earliest}
use Rattle.rules.specs.Running.{Asked, run, after}
use Rattle.rules.specs.Cases.{holds, twelve_cases}

-- the limits that the rules name
abbrev pub LimitsAreThese : Type 0
LimitsAreThese = (MOST_DESKS ≡ 16) × (MOST_ENTRIES ≡ 64) × (MOST_TICKS ≡ 65535) × (LAST_TICK ≡ 4000000000) × (MOST_NOTES ≡ 2048)

-- the twelve cases
abbrev pub TwelveCasesHold : Type 0
TwelveCasesHold = IsTrue (list_all holds twelve_cases)

abbrev pub FreshIsInShape : Type 0
FreshIsInShape = (k : Settings) → IsTrue (within_limits k) → IsTrue (in_shape (fresh k))

-- every action keeps a floor in shape, a refused one too
abbrev pub ShapeIsKept : Type 0
ShapeIsKept = (s : State) (m : Action) → IsTrue (in_shape s) → IsTrue (in_shape (next s m))

-- a note's number is its four parts: equal parts make equal notes
abbrev pub PartsMakeTheNote : Type 0
PartsMakeTheNote = (x y : ℕ) → time_out x ≡ time_out y → source x ≡ source y → destination x ≡ destination y → entry x ≡ entry y → x ≡ y

-- and equal notes have equal parts
abbrev pub NoteHasItsParts : Type 0
NoteHasItsParts =
    (t i j e t' i' j' e' : ℕ) → i < 256 → j < 256 → e < 256 → i' < 256 → j' < 256 → e' < 256
    → note_of t i j e ≡ note_of t' i' j' e' → (t ≡ t') × (i ≡ i') × (j ≡ j') × (e ≡ e')

-- the search comes to a place exactly where that is the earliest note that speaks of what is looked for, of equal ones the first
abbrev pub FoundIsEarliest : Type 0
FoundIsEarliest = (i j e : ℕ) (ns : List ℕ) (k : ℕ) → (earliest i j e ns ≡ Some k) ↔ Earliest i j e ns (length ns) k

-- and to none exactly where no waiting note does
abbrev pub NoneFoundWhereNoneWaits : Type 0
NoneFoundWhereNoneWaits = (i j e : ℕ) (ns : List ℕ) → (earliest i j e ns ≡ None) ↔ ((x : ℕ) → IsTrue (waits ns x) → speaks_of i j e x ≡ false)

-- all sets together grow by one source where an action is new, and by none where it is not
abbrev pub OneSourceForEachNew : Type 0
OneSourceForEachNew = (s : State) → Whole s → IsTrue (within_limits s.settings) → (m : Action) → all_sizes (next s m) ≡ all_sizes s + bit (is_new s m)

-- a source is new to a set once, whatever is done afterwards
abbrev pub NewOnlyOnce : Type 0
NewOnlyOnce =
    (s : State) → Whole s → IsTrue (within_limits s.settings) → (j i e : ℕ) → answer s (Receive j i e) ≡ Ok tt
    → (actions : List Action) → is_new (after (next s (Receive j i e)) actions) (Receive j i e) ≡ false

-- nor is it in any later state, whatever led there, in which no desk has forgotten anything
abbrev pub NewInNoLaterState : Type 0
NewInNoLaterState =
    (s : State) → Whole s → IsTrue (within_limits s.settings) → (j i e : ℕ) → answer s (Receive j i e) ≡ Ok tt
    → (s' : State) → Kept (next s (Receive j i e)) s' → is_new s' (Receive j i e) ≡ false

-- the total of a run is the number of sources by which all sets have grown
abbrev pub TotalIsTheSourcesAdded : Type 0
TotalIsTheSourcesAdded =
    (most : ℕ) (s : State) (asked : List Asked) → IsTrue (in_shape s) → Whole s
    → all_sizes (run most s asked).state ≡ all_sizes s + (run most s asked).total
