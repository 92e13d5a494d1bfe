-- A floor of the machine with its lent note area, as a state of the rules; and what each public call answers and leaves. Assumes nothing.
use Rattle.std.specs.Prelude.{Bool, not, ◌&&◌, List, [], ◌∷◌, ℕ, ◌+◌, ◌≤◌, nat_le, ◌==◌, length, take, slice_index_or, replicate, Result, Ok, Err, ⊤}
use Rattle.sets.specs.Counting.{bit}
use Rattle.rules.specs.declared.Settings.{Settings}
use Rattle.rules.specs.declared.TheConstants.Settings.{LAST_TICK, MOST_NOTES}
use Rattle.rules.specs.declared.Desk.{Desk}
use Rattle.rules.specs.declared.Action.{Action}
use Rattle.rules.specs.declared.Refusal.{Refusal}
use Rattle.rules.specs.declared.Refusal.TheVariants.{NotInShape, AreaLength}
use Rattle.rules.specs.Rules as rules
use Rattle.rules.specs.Rules.{State, Check, ◌when◌, first_of, fresh, no_desk, opens, answer, next}
use Rattle.rules.specs.NewSources.{adds_source}
use Rattle.records.specs.declared.Record.{Record}
use Rattle.records.specs.Records.{action_of, opening_of}
use Rattle.notes.specs.Area.{laid}
use Rattle.floors.specs.declared.Floor.{Floor}
use Rattle.floors.specs.declared.Told.{Told}

-- THE STATE that a floor holds, with the notes that it counts in its area
abbrev pub state_of : Floor → List ℕ → State
state_of fl area = record { settings = fl.settings; clock = fl.clock; desks = fl.desks; notes = take fl.waiting area }

-- THE FLOOR of a state
abbrev pub floor_of : State → Floor
floor_of s = record { settings = s.settings; clock = s.clock; waiting = length s.notes; desks = s.desks }

-- the floor of zeros, which counts as no floor
abbrev pub no_floor : Floor
no_floor = floor_of (fresh (record { desks = 0; faults = 0; entries = 0; message = 0; pass_on = 0; accept = 0 }))

abbrev pub desk_of : Floor → ℕ → Desk
desk_of fl i = slice_index_or fl.desks i no_desk

-- it counts no more notes than the area has, and the state that they hold is in shape
unfoldable pub in_shape : Floor → List ℕ → Bool
in_shape fl area = nat_le fl.waiting MOST_NOTES && rules.in_shape (state_of fl area)

-- what the moves use of a floor in shape
pub record IsReady (fl : Floor) : Type 0 where
  pub desks : fl.settings.desks ≤ 16
  pub faults : fl.settings.faults ≤ fl.settings.desks
  pub entries : fl.settings.entries ≤ 64
  pub message : fl.settings.message ≤ 65535
  pub pass_on : fl.settings.pass_on ≤ 65535
  pub accept : fl.settings.accept ≤ 65535
  pub clock : fl.clock ≤ LAST_TICK

-- both timers of a desk may go on by t ticks
abbrev pub may_go_on : Settings → ℕ → Desk → Bool
may_go_on k t d = nat_le (d.pass_on + t) k.pass_on && nat_le (d.accept + t) k.accept

-- ---- a step

-- what comes back of an action: its refusal, or whether it added a source
abbrev pub told : Bool → Result ⊤ Refusal → Result Told Refusal
told new (Ok _) = Ok (record { new = new })
told new (Err refusal) = Err refusal

abbrev pub step_answer : State → Action → Result Told Refusal
step_answer s m = told (adds_source s m) (answer s m)

-- how many sources it added
abbrev pub added : Result Told Refusal → ℕ
added (Ok t) = bit t.new
added (Err refusal) = 0

-- ---- a floor and an area handed in: the length of the area comes before the shape

abbrev pub wrong_area : List ℕ → Check
wrong_area area = AreaLength when not (length area == MOST_NOTES)

abbrev pub out_of_shape : Floor → List ℕ → Check
out_of_shape fl area = NotInShape when not (in_shape fl area)

abbrev pub handed_in : Floor → List ℕ → Result ⊤ Refusal
handed_in fl area = first_of (wrong_area area ∷ out_of_shape fl area ∷ [])

-- what comes after checks: nothing, where one fails
abbrev pub once : {A : Type 0} → Result ⊤ Refusal → Result A Refusal → Result A Refusal
once (Ok _) rest = rest
once (Err refusal) rest = Err refusal

-- ---- one action

-- the action that a record asks for, where floor and area may be handed in
abbrev pub asked : Floor → List ℕ → Record → Result Action Refusal
asked fl area r = once (handed_in fl area) (action_of r)

-- what it answers, and the floor and the area after it: a refusal leaves both as they were
abbrev pub acted : State → Result Action Refusal → Result Told Refusal
acted s (Ok m) = step_answer s m
acted s (Err refusal) = Err refusal

abbrev pub floor_after : Floor → List ℕ → Result Action Refusal → Floor
floor_after fl area (Ok m) = floor_of (next (state_of fl area) m)
floor_after fl area (Err refusal) = fl

abbrev pub area_after : Floor → List ℕ → Result Action Refusal → List ℕ
area_after fl area (Ok m) = laid fl.waiting area (next (state_of fl area) m).notes
area_after fl area (Err refusal) = area

-- ---- an opening: the length of the area, the form of the record, the limits

abbrev pub within : Result Settings Refusal → Result Settings Refusal
within (Ok k) = once (opens k) (Ok k)
within (Err refusal) = Err refusal

-- the settings that are opened with
abbrev pub opening : List ℕ → Record → Result Settings Refusal
opening area r = once (first_of (wrong_area area ∷ [])) (within (opening_of r))

-- what it answers, and the floor and the area after it: a refusal gives the floor of zeros and leaves the area
abbrev pub opened : Result Settings Refusal → Result ⊤ Refusal
opened (Ok k) = Ok tt
opened (Err refusal) = Err refusal

abbrev pub floor_opened : Result Settings Refusal → Floor
floor_opened (Ok k) = floor_of (fresh k)
floor_opened (Err refusal) = no_floor

abbrev pub area_opened : List ℕ → Result Settings Refusal → List ℕ
area_opened area (Ok k) = replicate MOST_NOTES 0
area_opened area (Err refusal) = area
