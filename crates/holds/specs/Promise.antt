-- What is promised of a hold after actions were asked of its floor, in the words of the wait. Assumes nothing.
use Rattle.std.specs.Prelude.{◌≡◌, true, false, if◌then◌else◌, List, ℕ, ◌≤◌, ◌<◌, Some, None, Ok, Err}
use Rattle.rules.specs.declared.Settings.{Settings}
use Rattle.rules.specs.declared.Action.{Action}
use Rattle.rules.specs.declared.Refusal.TheVariants.{NoEntry, WaitNotOver, AlreadyPrinted}
use Rattle.agreement.specs.Wait.{floor_after, AnnouncedBy, LaterThanWait, OnEveryGoodList}
use Rattle.records.specs.declared.Record.{Record}
use Rattle.records.specs.Records.{action_of}
use Rattle.floors.specs.Floors.{state_of, acted}
use Rattle.holds.specs.declared.Hold.{Hold}
use Rattle.holds.specs.FirstClock.{FirstBy}
use Rattle.holds.specs.Holds.{begun_at, noted_at, is_printed, asked_of, may_print}

-- by some clock f + 1 have announced the entry, and the state is later than that by more than the wait
abbrev pub WaitIsOver : Settings → ℕ → List Action → Type 0
WaitIsOver k e actions = (T : ℕ) × AnnouncedBy k e actions T × LaterThanWait k T (floor_after k actions)

-- the hold h, with its area, after these actions on a floor with the settings k
pub record Promised (k : Settings) (actions : List Action) (h : Hold) (area : List ℕ) : Type 0 where
  -- the floor is the rules', and so is the answer to the next record
  pub floor : state_of h.floor area ≡ floor_after k actions
  pub action : (r : Record) → acted (state_of h.floor area) (asked_of h area (action_of r)) ≡ acted (floor_after k actions) (action_of r)
  -- where f + 1 desks have announced an entry, the first clock by which they had is noted, and elsewhere none
  pub begins : (e : ℕ) → e < k.entries → (T : ℕ) → AnnouncedBy k e actions T → begun_at h e ≡ true
  pub noted : (e : ℕ) → e < k.entries → begun_at h e ≡ true → (T : ℕ) × (noted_at h e ≡ Some T) × FirstBy k e actions T
  pub unnoted : (e : ℕ) → e < k.entries → begun_at h e ≡ false → noted_at h e ≡ None
  -- a print that is carried out finds the entry on the list of every good desk
  pub listed : (e : ℕ) → may_print h area e ≡ Ok tt → OnEveryGoodList e (state_of h.floor area)
  -- 5 for an entry not below U; below it 17 where the wait is not over or not begun, and there alone, and 18 where it was printed
  pub beyond : (e : ℕ) → k.entries ≤ e → may_print h area e ≡ Err NoEntry
  pub early : (e : ℕ) → e < k.entries → (WaitIsOver k e actions → ⊥) → may_print h area e ≡ Err WaitNotOver
  pub over : (e : ℕ) → e < k.entries → WaitIsOver k e actions → may_print h area e ≡ (if is_printed h e then Err AlreadyPrinted else Ok tt)
