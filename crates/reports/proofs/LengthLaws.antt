-- How long the lines are at most.
use Rattle.std.proofs.Common.{◌≡◌, sym, ◌∙◌, ◌⊎◌, inl, inr, Bool, true, false, not, cond, ltb, IsTrue, ℕ, zero, suc, ◌+◌, ◌*◌, ◌^◌, ◌<◌, ◌≤◌, min, List, [], length, Option, Some, None, arith}
use Rattle.std.specs.Prelude.{codes, decimal, if◌then◌else◌, ◌==◌, slice_index_or}
use Rattle.std.proofs.lemmas.Fmt.{length-decimal-le}
use Rattle.std.proofs.lemmas.List.{length-append}
use Rattle.rules.specs.declared.Settings.{Settings}
use Rattle.rules.specs.declared.Refusal.{Refusal}
use Rattle.rules.specs.declared.Refusal.TheVariants.{NotInShape, OutsideSettings, Form, NoDesk, NoEntry, NoSuchNote, AlreadyFaulty, NotFaulty, TooManyFaulty, FalseTimeOut, NoRoom, PastTimeOut, PastTimer, PastClock, AreaLength, Length, WaitNotOver, AlreadyPrinted, NotEightFields, NotANumber, NotCsv, PlaceTooShort}
use Rattle.rules.specs.Rules.{number_of, last_number, no_desk, desk_in_shape, zero_desk}
use Rattle.rules.proofs.DeskShapes.{desk_shape}
use Rattle.rules.proofs.Shapes.{nothing, zero_is, shape}
use Rattle.floors.specs.Floors.{state_of, no_floor, in_shape}
use Rattle.floors.proofs.Shapes.{in_shape_state, in_shape_waiting, in_shape_ready}
use Rattle.sets.proofs.Tests.{and_right}
use Rattle.rules.specs.declared.Desk.{Desk}
use Rattle.floors.specs.declared.Floor.{Floor}
use Rattle.sets.specs.Sets.{member}
use Rattle.reports.specs.Texts.{field_text, two_numbers}
use Rattle.reports.specs.Lines.{entries_below, entries_text, mark_text, desk_line, desks_below, heading_text, outcome_text}
use Rattle.reports.specs.Refusals.{refusal_line, row_refusal_line, line_of}

-- a number of a machine word has at most 20 digits
pub digits_most : (n : ℕ) → n < 2 ^ 64 → length (decimal n) ≤ 20
digits_most n h = length-decimal-le 20 n (omega arith) (omega arith) h

pub refusal_line_most : (answer : ℕ) (reason : List ℕ) → answer < 2 ^ 64 → length (refusal_line answer reason) ≤ length reason + 30
refusal_line_most answer reason h = simp length-append (omega (arith, digits_most answer h))

pub row_refusal_line_most : (answer row : ℕ) (reason : List ℕ) → answer < 2 ^ 64 → row < 2 ^ 64 → length (row_refusal_line answer row reason) ≤ length reason + 55
row_refusal_line_most answer row reason h g = simp length-append (omega (arith, digits_most answer h, digits_most row g))

two_numbers_most : (first : List ℕ) (x : ℕ) (second : List ℕ) (y : ℕ) → x < 2 ^ 64 → y < 2 ^ 64 → length (two_numbers first x second y) ≤ length first + length second + 41
two_numbers_most first x second y h g = simp length-append (omega (arith, digits_most x h, digits_most y g))

-- where there is no floor, its line is missing
clock_most : (none : Bool) (text : List ℕ) (most : ℕ) → length text ≤ most → length (if none then [] else text) ≤ most
clock_most true text most h = omega arith
clock_most false text most h = h

pub heading_text_most : (count answer : ℕ) (fl : Floor) → count < 2 ^ 64 → answer < 2 ^ 64 → fl.clock < 2 ^ 64 → fl.waiting < 2 ^ 64 → length (heading_text count answer fl) ≤ 109
heading_text_most count answer fl c a k w =
    let clock = clock_most (fl.settings.desks == 0) (two_numbers (codes "clock ") fl.clock (codes " pending ") fl.waiting) 56 (two_numbers_most (codes "clock ") fl.clock (codes " pending ") fl.waiting k w) in
    let ran = two_numbers_most (codes "ran ") count (codes " answer ") answer c a in
    rw (length-append (two_numbers (codes "ran ") count (codes " answer ") answer) (if fl.settings.desks == 0 then [] else two_numbers (codes "clock ") fl.clock (codes " pending ") fl.waiting)) (omega arith)

-- an entry's number with the space in front
entry_most : (put : Bool) (k : ℕ) → k < 2 ^ 64 → length (if put then field_text (codes " ") k else []) ≤ 21
entry_most true k h = simp length-append (omega (arith, digits_most k h))
entry_most false k h = omega arith

entries_below_most : (k set : ℕ) → k ≤ 64 → length (entries_below k set) ≤ k * 21
entries_below_most zero set h = omega arith
entries_below_most (suc k) set h =
    rw (length-append (entries_below k set) (if member set k then field_text (codes " ") k else [])) (omega (arith, entries_below_most k set (omega arith), entry_most (member set k) k (omega arith)))

told_most : (none : Bool) (set : ℕ) → length (if none then codes " -" else entries_below 64 set) ≤ 1344
told_most true set = omega arith
told_most false set = entries_below_most 64 set (omega arith)

pub entries_text_most : (set : ℕ) → length (entries_text set) ≤ 1344
entries_text_most set = told_most (set == 0) set

mark_most : (faulty : Bool) → length (mark_text faulty) ≤ 6
mark_most true = omega arith
mark_most false = omega arith

pub desk_line_most : (number : ℕ) (d : Desk) → number < 2 ^ 64 → d.pass_on < 2 ^ 64 → d.accept < 2 ^ 64 → length (desk_line number d) ≤ 1419
desk_line_most number d n p a =
    simp length-append (omega (arith, digits_most number n, mark_most d.faulty, digits_most d.pass_on p, digits_most d.accept a, entries_text_most d.listed))

-- a refusal's number is one of 1 to 22
pub number_of_most : (refusal : Refusal) → number_of refusal < 2 ^ 64
number_of_most NotInShape = omega arith
number_of_most OutsideSettings = omega arith
number_of_most Form = omega arith
number_of_most NoDesk = omega arith
number_of_most NoEntry = omega arith
number_of_most NoSuchNote = omega arith
number_of_most AlreadyFaulty = omega arith
number_of_most NotFaulty = omega arith
number_of_most TooManyFaulty = omega arith
number_of_most FalseTimeOut = omega arith
number_of_most NoRoom = omega arith
number_of_most PastTimeOut = omega arith
number_of_most PastTimer = omega arith
number_of_most PastClock = omega arith
number_of_most AreaLength = omega arith
number_of_most Length = omega arith
number_of_most WaitNotOver = omega arith
number_of_most AlreadyPrinted = omega arith
number_of_most NotEightFields = omega arith
number_of_most NotANumber = omega arith
number_of_most NotCsv = omega arith
number_of_most PlaceTooShort = omega arith

pub last_number_most : (refusal : Option Refusal) → last_number refusal < 2 ^ 64
last_number_most None = omega arith
last_number_most (Some refusal) = number_of_most refusal

pub input_line_most : (refusal : Refusal) (reason : List ℕ) → length (line_of refusal None reason) ≤ length reason + 30
input_line_most refusal reason = refusal_line_most (number_of refusal) reason (number_of_most refusal)

pub row_line_most : (refusal : Refusal) (row : ℕ) (reason : List ℕ) → row < 2 ^ 64 → length (line_of refusal (Some row) reason) ≤ length reason + 55
row_line_most refusal row reason h = row_refusal_line_most (number_of refusal) row reason (number_of_most refusal) h

-- the timers of the desks are numbers of a machine word
abbrev pub timers_fit : List Desk → Type 0
timers_fit ds = (k : ℕ) → k < 16 → ((slice_index_or ds k no_desk).pass_on < 2 ^ 64) × ((slice_index_or ds k no_desk).accept < 2 ^ 64)

desks_below_most : (k : ℕ) (ds : List Desk) → k ≤ 16 → timers_fit ds → length (desks_below k ds) ≤ k * 1419
desks_below_most zero ds h fit = omega arith
desks_below_most (suc k) ds h fit =
    let (pass_on, accept) = fit k (omega arith) in
    rw (length-append (desks_below k ds) (desk_line k (slice_index_or ds k no_desk)))
    (omega (arith, desks_below_most k ds (omega arith) fit, desk_line_most k (slice_index_or ds k no_desk) (omega arith) pass_on accept))

pub outcome_text_most : (count answer : ℕ) (fl : Floor) → count < 2 ^ 64 → answer < 2 ^ 64 → fl.clock < 2 ^ 64 → fl.waiting < 2 ^ 64 → timers_fit fl.desks
    → length (outcome_text count answer fl) ≤ 22813
unfolding outcome_text
outcome_text_most count answer fl c a k w fit =
    rw (length-append (heading_text count answer fl) (desks_below (min fl.settings.desks 16) fl.desks))
    (omega (arith, heading_text_most count answer fl c a k w, desks_below_most (min fl.settings.desks 16) fl.desks (omega arith) fit))

-- ---- of a floor that is none, or in shape

place_timers : (k : Settings) (d : Desk) (used : Bool) → k.pass_on ≤ 65535 → k.accept ≤ 65535 → cond used (desk_in_shape k d) (zero_desk d) ≡ true → (d.pass_on < 2 ^ 64) × (d.accept < 2 ^ 64)
place_timers k d true p a h = let s = desk_shape k d h in (omega (arith, s.pass_on), omega (arith, s.accept))
place_timers k d false p a h =
    let s = desk_shape nothing d (and_right (not d.faulty) (desk_in_shape nothing d) (sym (zero_is d) ∙ h)) in
    (omega (arith, s.pass_on), omega (arith, s.accept))

pub shape_timers : (fl : Floor) (area : List ℕ) → in_shape fl area ≡ true → timers_fit fl.desks
shape_timers fl area h k l =
    let ready = in_shape_ready fl area h in
    let s = shape (state_of fl area) (in_shape_state fl area h) in
    place_timers fl.settings (slice_index_or fl.desks k no_desk) (ltb k fl.settings.desks) ready.pass_on ready.accept (s.desks k l)

pub left_heading_most : (count answer : ℕ) (fl : Floor) (area : List ℕ) → count < 2 ^ 64 → answer < 2 ^ 64 → (fl ≡ no_floor) ⊎ IsTrue (in_shape fl area)
    → length (heading_text count answer fl) ≤ 109
left_heading_most count answer fl area c a (inl none) = rw none (heading_text_most count answer no_floor c a (omega arith) (omega arith))
left_heading_most count answer fl area c a (inr h) =
    heading_text_most count answer fl c a (omega (arith, (in_shape_ready fl area h).clock)) (omega (arith, in_shape_waiting fl area h))

pub left_outcome_most : (count answer : ℕ) (fl : Floor) (area : List ℕ) → count < 2 ^ 64 → answer < 2 ^ 64 → (fl ≡ no_floor) ⊎ IsTrue (in_shape fl area)
    → length (outcome_text count answer fl) ≤ 22813
unfolding outcome_text
left_outcome_most count answer fl area c a (inl none) =
    rw (none, length-append (heading_text count answer no_floor) []) (omega (arith, heading_text_most count answer no_floor c a (omega arith) (omega arith)))
left_outcome_most count answer fl area c a (inr h) =
    outcome_text_most count answer fl c a (omega (arith, (in_shape_ready fl area h).clock)) (omega (arith, in_shape_waiting fl area h)) (shape_timers fl area h)
