-- The hold on the printers, and its calls. Assumes nothing.
use Rattle.std.specs.Prelude.{◌≡◌, Bool, true, not, if◌then◌else◌, List, [], ◌∷◌, ℕ, nat_lt, slice_index_or, slice_set, replicate, length, Option, Result, Ok, Err, is_ok, ⊤}
use Rattle.rules.specs.declared.TheConstants.Settings.{MOST_ENTRIES, MOST_NOTES}
use Rattle.rules.specs.declared.Action.{Action}
use Rattle.rules.specs.declared.Action.TheVariants.{Delay, Announce, PassOn, Accept, Receive, Crash, ResetTimers, FalseNote}
use Rattle.rules.specs.declared.Refusal.{Refusal}
use Rattle.rules.specs.declared.Refusal.TheVariants.{NotInShape, NoEntry, WaitNotOver, AlreadyPrinted}
use Rattle.rules.specs.Rules.{Check, ◌when◌, first_of, every_below, answer}
use Rattle.rules.specs.Running.{Asked}
use Rattle.floors.specs.declared.Floor.{Floor}
use Rattle.floors.specs.declared.Told.{Told}
use Rattle.floors.specs.Floors.{state_of, in_shape, wrong_area, out_of_shape, handed_in, once, acted, floor_after, area_after}
use Rattle.holds.specs.declared.Sticker.{Sticker}
use Rattle.holds.specs.declared.Hold.{Hold}
use Rattle.holds.specs.Stickers.{fresh_sticker, begun, announced_by, wait_over, sticker_in_shape}

abbrev pub sticker_at : List Sticker → ℕ → Sticker
sticker_at sts e = slice_index_or sts e fresh_sticker

abbrev pub begun_at : Hold → ℕ → Bool
begun_at h e = begun h.floor.settings.faults (sticker_at h.stickers e).announced

abbrev pub noted_at : Hold → ℕ → Option ℕ
noted_at h e = (sticker_at h.stickers e).noted

abbrev pub is_printed : Hold → ℕ → Bool
is_printed h e = (sticker_at h.stickers e).printed

-- nothing is noted
abbrev pub new_hold : Floor → Hold
new_hold fl = record { floor = fl; stickers = replicate MOST_ENTRIES fresh_sticker }

-- ---- in shape: what stands beside the floor, which has its own

abbrev pub entry_in_shape : Hold → ℕ → Bool
entry_in_shape h e = sticker_in_shape h.floor e (sticker_at h.stickers e)

unfoldable pub noted_in_shape : Hold → Bool
noted_in_shape h = every_below (entry_in_shape h) MOST_ENTRIES

abbrev pub noted_out_of_shape : Hold → Check
noted_out_of_shape h = NotInShape when not (noted_in_shape h)

-- ---- one action

-- what is asked of the floor by a record that is read so: 15, 1 for what is noted, then as the floor has it
abbrev pub asked_of : Hold → List ℕ → Asked → Asked
asked_of h area x = once (first_of (wrong_area area ∷ noted_out_of_shape h ∷ [])) (once (handed_in h.floor area) x)

-- the stickers after desk i has carried out an announcement of entry e
abbrev pub announcing : Hold → ℕ → ℕ → List Sticker
announcing h i e = slice_set h.stickers e (announced_by i h.floor.settings.faults h.floor.clock (sticker_at h.stickers e))

-- what is noted of an action that is carried out
abbrev pub noting : Hold → Action → List Sticker
noting h (Announce i e) = announcing h i e
noting h (Delay t) = h.stickers
noting h (PassOn i) = h.stickers
noting h (Accept j) = h.stickers
noting h (Receive j i e) = h.stickers
noting h (Crash i) = h.stickers
noting h (ResetTimers i) = h.stickers
noting h (FalseNote i j e t) = h.stickers

-- a refusal notes nothing
abbrev pub stickers_after : Hold → List ℕ → Asked → List Sticker
stickers_after h area (Ok m) = (if is_ok (answer (state_of h.floor area) m) then noting h m else h.stickers)
stickers_after h area (Err refusal) = h.stickers

-- a hold with its area, and what a record that is read so is answered there and leaves
pub record Standing : Type 0 where
  pub hold : Hold
  pub area : List ℕ

-- it may be handed in: all is in shape, and the arrays have the lengths that their types say
pub record HandedIn (o : Standing) : Type 0 where
  pub room : length o.area ≡ MOST_NOTES
  pub floor : in_shape o.hold.floor o.area ≡ true
  pub noted : noted_in_shape o.hold ≡ true
  pub desks : length o.hold.floor.desks ≡ 16
  pub stickers : length o.hold.stickers ≡ 64

abbrev pub answer_to : Standing → Asked → Result Told Refusal
answer_to o x = acted (state_of o.hold.floor o.area) (asked_of o.hold o.area x)

abbrev pub after : Hold → List ℕ → Asked → Standing
after h area x =
    record {
      hold = record { floor = floor_after h.floor area x; stickers = stickers_after h area x };
      area = area_after h.floor area x;
    }

abbrev pub taken : Standing → Asked → Standing
taken o x = after o.hold o.area (asked_of o.hold o.area x)

-- ---- a print

-- 15 and 1 for floor and area, 1 for what is noted, 5, then 17 and 18
abbrev pub print_checks : Hold → List ℕ → ℕ → List Check
print_checks h area e =
    wrong_area area
    ∷ out_of_shape h.floor area
    ∷ noted_out_of_shape h
    ∷ NoEntry when not (nat_lt e h.floor.settings.entries)
    ∷ WaitNotOver when not (wait_over h.floor.settings h.floor.clock (sticker_at h.stickers e))
    ∷ AlreadyPrinted when (sticker_at h.stickers e).printed
    ∷ []

-- whether the sticker of entry e may be printed
abbrev pub may_print : Hold → List ℕ → ℕ → Result ⊤ Refusal
may_print h area e = first_of (print_checks h area e)

abbrev pub with_printed : Hold → ℕ → Hold
with_printed h e = record h { stickers = slice_set h.stickers e (record (sticker_at h.stickers e) { printed = true }) }

abbrev pub printed : Hold → List ℕ → ℕ → Hold
printed h area e = (if is_ok (may_print h area e) then with_printed h e else h)
