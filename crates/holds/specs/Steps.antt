-- Actions and prints on a hold, one after another, refused ones among them. Assumes nothing.
use Rattle.std.specs.Prelude.{◌&&◌, ◌==◌, List, [], ◌∷◌, ◌++◌, ℕ, ◌+◌, Result, Ok, Err, is_ok}
use Rattle.sets.specs.Counting.{bit}
use Rattle.rules.specs.declared.Action.{Action}
use Rattle.rules.specs.declared.Refusal.{Refusal}
use Rattle.records.specs.declared.Record.{Record}
use Rattle.records.specs.Records.{action_of}
use Rattle.floors.specs.Floors.{opening, floor_opened, area_opened}
use Rattle.holds.specs.Holds.{Standing, new_hold, may_print, printed, taken}

pub data Step : Type 0 where
  action : Record → Step
  print : ℕ → Step

-- what a step leaves
abbrev pub stepped : Standing → Step → Standing
stepped o (action r) = taken o (action_of r)
stepped o (print e) = record { hold = printed o.hold o.area e; area = o.area }

-- each step is made on the hold and the area that the one before it left
abbrev pub left_by : Standing → List Step → Standing
left_by o [] = o
left_by o (step ∷ steps) = left_by (stepped o step) steps

-- what an opening leaves
abbrev pub opened_hold : List ℕ → Record → Standing
opened_hold area r = record { hold = new_hold (floor_opened (opening area r)); area = area_opened area (opening area r) }

-- what a record asks of the floor: an action, or nothing
abbrev pub asks_for : Result Action Refusal → List Action
asks_for (Ok m) = m ∷ []
asks_for (Err refusal) = []

-- the actions that the steps ask of the floor: a print asks for none
abbrev pub actions_of : List Step → List Action
actions_of [] = []
actions_of (action r ∷ steps) = asks_for (action_of r) ++ actions_of steps
actions_of (print e ∷ steps) = actions_of steps

-- how many prints of entry e are carried out
abbrev pub is_print_of : ℕ → Standing → Step → ℕ
is_print_of e o (action r) = 0
is_print_of e o (print c) = bit (is_ok (may_print o.hold o.area c) && c == e)

abbrev pub times_printed : ℕ → Standing → List Step → ℕ
times_printed e o [] = 0
times_printed e o (step ∷ steps) = is_print_of e o step + times_printed e (stepped o step) steps
