-- A floor in shape: the test as the code makes it, what the moves use of it, and that each step keeps it. Nobody else unfolds `in_shape`.
-- Assumes nothing.
use Rattle.std.proofs.Common.{◌≡◌, refl, sym, ap, subst, ℕ, ◌+◌, ◌*◌, ◌≤◌, Bool, true, false, ◌&&◌, List, length, take, drop, nat_le, arith}
use mathlib.Core.Bool.{and-false}
use Rattle.std.proofs.Math.Bool.{and_assoc}
use Rattle.std.proofs.lemmas.List.{length-take-le}
use Rattle.std.specs.List.{list_all}
use borrow.Author.Tests.{leb-true, le-leb}
use Rattle.sets.proofs.Tests.{and_left, and_right, and_both}
use Rattle.rules.specs.declared.Settings.{Settings}
use Rattle.rules.specs.declared.TheConstants.Settings.{LAST_TICK, MOST_NOTES}
use Rattle.rules.specs.declared.Action.{Action}
use Rattle.rules.specs.Rules as rules
use Rattle.rules.specs.Rules.{State, within_limits, fresh, next, note_in_shape, desk_in_shape, zero_desk, place_in_shape, every_below, faults}
use Rattle.rules.proofs.Shapes.{Shape, shape, shape_in_shape, limits}
use Rattle.rules.proofs.ShapeKept.{fresh_shape, next_shaped}
use Rattle.notes.specs.Area.{laid}
use Rattle.notes.proofs.AreaLaws.{take_laid}
use Rattle.floors.specs.declared.Floor.{Floor}
use Rattle.floors.specs.Floors.{state_of, floor_of, in_shape, IsReady}
use Rattle.floors.proofs.DeskLists.{places_are}

reorder : (a b w r x y z p f : Bool) → (w ≡ true → r ≡ true) → p ≡ (y && z) → (w && (a && b && r && x && p && f)) ≡ (a && b && w && x && y && z && f)
reorder false b true r x y z p f h e = refl
reorder false b false r x y z p f h e = refl
reorder true false true r x y z p f h e = refl
reorder true false false r x y z p f h e = refl
reorder true true true r x y z p f h e = rw (h refl, e) (ap (λ (q : Bool). q && f) (sym (and_assoc x y z)))
reorder true true false r x y z p f h e = refl

module _ (fl : Floor) (area : List ℕ) where
  -- settings outside the limits
  pub in_shape_limits : within_limits fl.settings ≡ false → in_shape fl area ≡ false
  unfolding in_shape
  in_shape_limits h = rw h (and-false (nat_le fl.waiting MOST_NOTES))

  -- the tests, in the order in which the code makes them
  pub in_shape_is : length area ≡ MOST_NOTES → fl.settings.desks ≤ 16 → length fl.desks ≡ 16
      → in_shape fl area
      ≡ (within_limits fl.settings
      && nat_le fl.clock LAST_TICK
      && nat_le fl.waiting MOST_NOTES
      && list_all (note_in_shape fl.settings fl.clock) (take fl.waiting area)
      && list_all (desk_in_shape fl.settings) (take fl.settings.desks fl.desks)
      && list_all zero_desk (drop fl.settings.desks fl.desks)
      && nat_le (faults (state_of fl area)) fl.settings.faults)
  unfolding in_shape
  in_shape_is whole few long =
      reorder (within_limits fl.settings) (nat_le fl.clock LAST_TICK) (nat_le fl.waiting MOST_NOTES) (nat_le (length (take fl.waiting area)) MOST_NOTES)
      (list_all (note_in_shape fl.settings fl.clock) (take fl.waiting area)) (list_all (desk_in_shape fl.settings) (take fl.settings.desks fl.desks))
      (list_all zero_desk (drop fl.settings.desks fl.desks)) (every_below (place_in_shape (state_of fl area)) 16) (nat_le (faults (state_of fl area)) fl.settings.faults)
      (λ yes.
      let small : fl.waiting ≤ MOST_NOTES = leb-true fl.waiting MOST_NOTES yes in
      let all : length (take fl.waiting area) ≡ fl.waiting = length-take-le fl.waiting area (omega arith) in
      le-leb (length (take fl.waiting area)) MOST_NOTES (omega arith))
      (places_are (state_of fl area) few long)

  module _ (h : in_shape fl area ≡ true) where
    both : (nat_le fl.waiting MOST_NOTES && rules.in_shape (state_of fl area)) ≡ true
    unfolding in_shape
    both = h

    pub in_shape_state : rules.in_shape (state_of fl area) ≡ true
    in_shape_state = and_right (nat_le fl.waiting MOST_NOTES) (rules.in_shape (state_of fl area)) both

    pub in_shape_waiting : fl.waiting ≤ MOST_NOTES
    in_shape_waiting = leb-true fl.waiting MOST_NOTES (and_left (nat_le fl.waiting MOST_NOTES) (rules.in_shape (state_of fl area)) both)

    pub in_shape_ready : IsReady fl
    in_shape_ready =
        let s = shape (state_of fl area) in_shape_state in
        let k = limits fl.settings s.settings in
        record {
          desks = k.desks.1;
          faults = let f : 3 * fl.settings.faults + 1 ≤ fl.settings.desks = k.faulty in omega arith;
          entries = k.entries.1;
          message = k.m.1;
          pass_on = k.p.1;
          accept = k.a.1;
          clock = s.clock;
        }

-- what a state holds is read back from its floor and its area
pub state_laid : (s : State) (w : ℕ) (area : List ℕ) → state_of (floor_of s) (laid w area s.notes) ≡ s
state_laid s w area = rw (take_laid w area s.notes) refl

pub shape_laid : (s : State) (w : ℕ) (area : List ℕ) → Shape s → in_shape (floor_of s) (laid w area s.notes) ≡ true
unfolding in_shape
shape_laid s w area h =
    and_both (nat_le (length s.notes) MOST_NOTES) (rules.in_shape (state_of (floor_of s) (laid w area s.notes))) (le-leb (length s.notes) MOST_NOTES h.room)
    (subst (λ (z : State). rules.in_shape z ≡ true) (sym (state_laid s w area)) (shape_in_shape s h))

-- EVERY STEP ON A FLOOR IN SHAPE LEAVES A FLOOR IN SHAPE
pub step_in_shape : (fl : Floor) (area : List ℕ) (m : Action) → in_shape fl area ≡ true
    → in_shape (floor_of (next (state_of fl area) m)) (laid fl.waiting area (next (state_of fl area) m).notes) ≡ true
step_in_shape fl area m h =
    shape_laid (next (state_of fl area) m) fl.waiting area (next_shaped (state_of fl area) m (shape (state_of fl area) (in_shape_state fl area h)))

-- so is a floor that was opened
pub opened_in_shape : (k : Settings) (area : List ℕ) → within_limits k ≡ true → in_shape (floor_of (fresh k)) area ≡ true
unfolding in_shape
opened_in_shape k area h = rw (shape_in_shape (fresh k) (fresh_shape k h)) refl

pub floor_same : (fl : Floor) (area : List ℕ) → fl.waiting ≤ length area → floor_of (state_of fl area) ≡ fl
floor_same fl area h = rw (length-take-le fl.waiting area h) refl
