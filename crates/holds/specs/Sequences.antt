-- A whole sequence on a hold: an opening, and record after record. Assumes nothing.
use Rattle.std.specs.Prelude.{if◌then◌else◌, List, [], ◌∷◌, ℕ, ◌+◌, drop, None, Result, is_ok}
use Rattle.rules.specs.declared.Refusal.{Refusal}
use Rattle.rules.specs.Running.{Asked}
use Rattle.floors.specs.Floors.{floor_opened, area_opened}
use Rattle.runs.specs.Runs.{refusal_in, all_asked, whole_opening}
use Rattle.holds.specs.declared.sequences.Taken.{Taken}
use Rattle.holds.specs.Holds.{Standing, new_hold, answer_to, taken}

-- what a sequence has come to: what it tells, and the hold and the area that it leaves
pub record Went : Type 0 where
  pub taken : Taken
  pub left : Standing

-- before the first record
abbrev pub begun : Standing → Went
begun o = record { taken = record { count = 0; refusal = None }; left = o }

abbrev pub carried_out : Went → Asked → Went
carried_out w x = record { taken = record { count = w.taken.count + 1; refusal = w.taken.refusal }; left = taken w.left x }

-- a refusal ends it: what was carried out before stands
abbrev pub ended : {A : Type 0} → Result A Refusal → Went → Went
ended answer w = record w { taken = record w.taken { refusal = refusal_in answer } }

-- record after record, up to the first that is refused
abbrev pub went_on : Went → List Asked → Went
went_on w [] = w
went_on w (x ∷ more) = (if is_ok (answer_to w.left x) then went_on (carried_out w x) more else ended (answer_to w.left x) w)

-- the hold that its first record opens, or that of no floor
abbrev pub whole_begun : List ℕ → List ℕ → Went
whole_begun area bytes =
    begun (record { hold = new_hold (floor_opened (whole_opening area bytes)); area = area_opened area (whole_opening area bytes) })

-- refused as the library refuses it, and otherwise every record after the opening, which is not counted
abbrev pub whole_of : List ℕ → List ℕ → Went
whole_of area bytes =
    (if is_ok (whole_opening area bytes)
    then went_on (whole_begun area bytes) (all_asked (drop 16 bytes))
    else ended (whole_opening area bytes) (whole_begun area bytes))
