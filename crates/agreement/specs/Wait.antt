-- What is demanded of the rules: agreement within the wait. If f + 1 different desks announce an entry by some clock T, then at every clock later
-- than T + 2M + P + A each good desk has it on its list; from a fresh floor, whatever is done and whatever is refused.
use Rattle.std.specs.Prelude.{◌≡◌, Bool, true, false, ◌&&◌, List, ◌++◌, ℕ, ◌+◌, ◌*◌, ◌≤◌, ◌<◌, ◌==◌, is_ok, IsTrue}
use Rattle.sets.specs.Counting.{count}
use Rattle.sets.specs.Sets.{member}
use Rattle.rules.specs.declared.Settings.{Settings}
use Rattle.rules.specs.declared.Action.{Action}
use Rattle.rules.specs.declared.Action.TheVariants.{Delay, Announce, PassOn, Accept, Receive, Crash, ResetTimers, FalseNote}
use Rattle.rules.specs.Rules.{State, within_limits, fresh, desk_at, sources, is_sent, waits, speaks_of, time_out, answer, next}
use Rattle.agreement.specs.View.{View, after, announcers}

-- ---- the floor, as seen for one entry

-- desk i is one of the n, and not faulty
abbrev pub Live : State → ℕ → Type 0
Live s i = (i < s.settings.desks) × ((desk_at s i).faulty ≡ false)

-- the action asks desk i to announce entry e
abbrev pub asks : ℕ → Action → ℕ → Bool
asks e (Announce a c) i = a == i && c == e
asks e (Delay t) i = false
asks e (PassOn a) i = false
asks e (Accept j) i = false
asks e (Receive j a c) i = false
asks e (Crash a) i = false
asks e (ResetTimers a) i = false
asks e (FalseNote a j c t) i = false

module _ (e : ℕ) where
  -- entry e is on the list of desk j
  abbrev pub Listed : State → ℕ → Type 0
  Listed s j = member (desk_at s j).listed e ≡ true

  -- a note of entry e from desk i to desk j with time-out t waits
  abbrev pub Note : State → ℕ → ℕ → ℕ → Type 0
  Note s i j t = (x : ℕ) × (waits s.notes x ≡ true) × (speaks_of i j e x ≡ true) × (time_out x ≡ t)

  -- desk i carries out an announcement of entry e: it comes back with 0, also from a faulty desk, also where the mark was set before
  abbrev pub announces : State → Action → ℕ → Bool
  announces s m i = is_ok (answer s m) && asks e m i

  abbrev pub view : View
  view =
      record {
        State = State;
        Act = Action;
        next = next;
        clock = λ s. s.clock;
        pass_timer = λ s i. (desk_at s i).pass_on;
        accept_timer = λ s j. (desk_at s j).accept;
        Live = Live;
        has = λ s j i. member (sources (desk_at s j) e) i;
        Note = Note;
        Sent = λ s i. is_sent (desk_at s i) e ≡ true;
        Listed = Listed;
        announces = announces;
      }

-- ---- the parts of the sentence

-- the fresh floor after these actions, the refused ones left out
abbrev pub floor_after : Settings → List Action → State
floor_after k actions = after next (fresh k) actions

-- by clock T, f + 1 different desks have carried out an announcement of entry e
abbrev pub AnnouncedBy : Settings → ℕ → List Action → ℕ → Type 0
AnnouncedBy k e actions T = k.faults + 1 ≤ count (announcers (view e) T (fresh k) actions) k.desks

-- the clock is later than T by more than the wait
abbrev pub LaterThanWait : Settings → ℕ → State → Type 0
LaterThanWait k T s = T + 2 * k.message + k.pass_on + k.accept < s.clock

-- every desk that is not faulty there has the entry on its list
abbrev pub OnEveryGoodList : ℕ → State → Type 0
OnEveryGoodList e s = (j : ℕ) → Live s j → Listed e s j

-- THE WAIT: the sentence as a whole
abbrev pub WaitIsEnough : Type 0
WaitIsEnough =
    (k : Settings) → IsTrue (within_limits k) → (e : ℕ) → e < k.entries → (actions : List Action) (T : ℕ)
    → AnnouncedBy k e actions T → LaterThanWait k T (floor_after k actions) → OnEveryGoodList e (floor_after k actions)

-- read from where the announcements were made: whatever more is done, in every later state
abbrev pub WaitStaysEnough : Type 0
WaitStaysEnough =
    (k : Settings) → IsTrue (within_limits k) → (e : ℕ) → e < k.entries → (actions more : List Action) (T : ℕ)
    → AnnouncedBy k e actions T → LaterThanWait k T (floor_after k (actions ++ more)) → OnEveryGoodList e (floor_after k (actions ++ more))

-- a floor keeps the settings that it was opened with
abbrev pub SettingsStay : Type 0
SettingsStay = (k : Settings) (actions : List Action) → (floor_after k actions).settings ≡ k
