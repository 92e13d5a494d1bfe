-- What is proved of runs, each under the name of the function in src/theorems.rt that says it. Assumes nothing.
use Rattle.std.specs.Prelude.{◌≡◌, ℕ, ◌<◌, ◌/◌, ◌++◌, IsTrue, List, length, drop, Option, Some, None, Result, Ok, Err, ⊤}
use Rattle.rules.specs.declared.Settings.{Settings}
use Rattle.rules.specs.declared.TheConstants.Settings.{MOST_NOTES}
use Rattle.rules.specs.declared.Action.{Action}
use Rattle.rules.specs.declared.Refusal.{Refusal}
use Rattle.rules.specs.Rules.{State, fresh, next}
use Rattle.rules.specs.Running.{Run, run}
use Rattle.agreement.specs.View.{after}
use Rattle.agreement.specs.Wait.{AnnouncedBy, LaterThanWait, OnEveryGoodList}
use Rattle.records.specs.declared.Record.{Record}
use Rattle.floors.specs.declared.Floor.{Floor}
use Rattle.floors.specs.Floors.{state_of, in_shape, opening, floor_opened, area_opened}
use Rattle.runs.specs.Runs.{Went, state_in, all_asked, run_answer, run_of, whole_opening, whole_of}
use Rattle.runs.specs.Calls.{Call, Standing, standing, first_actions, left_by, all_actions}

-- ---- a run is the rules' run of what its records ask for: as many steps, the same total, the same last answer and the same state

abbrev pub given : Option Refusal → Result ⊤ Refusal
given None = Ok tt
given (Some refusal) = Err refusal

abbrev pub by_rules : Went → Run
by_rules w = record { count = w.ran.count; total = w.ran.new_sources; answer = given w.ran.refusal; state = state_in w }

-- it is the rules' run r, and leaves a floor and an area in shape
pub record IsRun (w : Went) (r : Run) : Type 0 where
  pub run : by_rules w ≡ r
  pub room : length w.area ≡ MOST_NOTES
  pub shape : IsTrue (in_shape w.floor w.area)

abbrev pub RunIsTheRulesRun : Type 0
RunIsTheRulesRun =
    (fl : Floor) (area bytes : List ℕ) (most : ℕ) → run_answer fl area bytes ≡ Ok tt
    → IsRun (run_of fl area bytes most) (run most (state_of fl area) (all_asked bytes))

-- what is left of a whole sequence after its opening is a run from the fresh floor; no most-number stops it
abbrev pub WholeIsTheRulesRun : Type 0
WholeIsTheRulesRun =
    (area bytes : List ℕ) (k : Settings) → whole_opening area bytes ≡ Ok k
    → IsRun (whole_of area bytes) (run (length (drop 16 bytes) / 16) (fresh k) (all_asked (drop 16 bytes)))

-- a run leaves the state after the actions of the records that it counts, refused or not
abbrev pub RunLeavesItsActions : Type 0
RunLeavesItsActions =
    (fl : Floor) (area bytes : List ℕ) (most : ℕ)
    → let w = run_of fl area bytes most in state_in w ≡ after next (state_of fl area) (first_actions bytes w.ran.count)

-- ---- the wait, at the calls

-- the wait where these actions led to this state: f + 1 announcers by clock T, and every state later than T + 2M + P + A has the entry on
-- every list of a desk that is not faulty
abbrev pub Waits : Settings → List Action → State → Type 0
Waits k actions s = (e T : ℕ) → e < k.entries → AnnouncedBy k e actions T → LaterThanWait k T s → OnEveryGoodList e s

abbrev pub state_at : Standing → State
state_at st = state_of st.floor st.area

-- an opening that is carried out, and any calls after it, refused ones among them
abbrev pub WaitHoldsAtCalls : Type 0
WaitHoldsAtCalls =
    (area : List ℕ) (r : Record) (k : Settings) → opening area r ≡ Ok k → (calls : List Call)
    → let st : Standing = record { floor = floor_opened (Ok k); area = area_opened area (Ok k) } in
    Waits k (all_actions st calls) (state_at (left_by st calls))

-- any whole sequence: the settings are those of the floor that it leaves, and the actions those that it counts
abbrev pub WaitHoldsOfWhole : Type 0
WaitHoldsOfWhole =
    (area bytes : List ℕ) → let w = whole_of area bytes in Waits w.floor.settings (first_actions (drop 16 bytes) w.ran.count) (state_in w)

-- a whole sequence, and any calls after it
abbrev pub WaitHoldsAfterWhole : Type 0
WaitHoldsAfterWhole =
    (area bytes : List ℕ) (calls : List Call) → let w = whole_of area bytes in
    Waits w.floor.settings (first_actions (drop 16 bytes) w.ran.count ++ all_actions (standing w) calls) (state_at (left_by (standing w) calls))
