-- What is noted of one entry: when its wait has begun, the clock that is noted, when the wait is over, and what is in shape. Assumes nothing.
use Rattle.std.specs.Prelude.{Bool, false, not, if◌then◌else◌, ◌&&◌, ◌||◌, List, ℕ, ◌+◌, nat_le, nat_lt, slice_index_or, Option, Some, None}
use Rattle.sets.specs.Sets.{member, insert_below, size, all_below}
use Rattle.rules.specs.declared.Settings.{Settings}
use Rattle.rules.specs.declared.TheConstants.Settings.{MOST_DESKS}
use Rattle.rules.specs.declared.Desk.{Desk}
use Rattle.rules.specs.Rules.{wait, every_below, no_desk, is_sent}
use Rattle.floors.specs.declared.Floor.{Floor}
use Rattle.holds.specs.declared.Sticker.{Sticker}

-- nothing is noted
abbrev pub fresh_sticker : Sticker
fresh_sticker = record { announced = 0; noted = None; printed = false }

-- ---- the wait

-- it begins when f + 1 different desks have carried out an announcement of the entry
abbrev pub begun : ℕ → ℕ → Bool
begun faults announced = nat_le (faults + 1) (size 16 announced)

-- the clock at which the f + 1st of them did; no later announcement moves it
abbrev pub clock_noted : ℕ → ℕ → ℕ → ℕ → Option ℕ → Option ℕ
clock_noted faults before after clock noted = (if not (begun faults before) && begun faults after then Some clock else noted)

-- a desk has carried out an announcement of the entry at this clock
abbrev pub announced_by : ℕ → ℕ → ℕ → Sticker → Sticker
announced_by desk faults clock st =
    let after = insert_below 16 st.announced desk in
    record st { announced = after; noted = clock_noted faults st.announced after clock st.noted }

-- the clock is later than the noted one by more than 2M + P + A
abbrev pub is_past : Settings → ℕ → Option ℕ → Bool
is_past k clock None = false
is_past k clock (Some noted) = nat_lt (noted + wait k) clock

abbrev pub wait_over : Settings → ℕ → Sticker → Bool
wait_over k clock st = begun k.faults st.announced && is_past k clock st.noted

-- ---- in shape: what every action and every print keeps

-- who has announced the entry has its sent mark
abbrev pub sent_by : List Desk → ℕ → ℕ → ℕ → Bool
sent_by desks announced e i = not (member announced i) || is_sent (slice_index_or desks i no_desk) e

-- a clock is noted where the wait has begun and nowhere else, and none that is still to come
abbrev pub noted_fits : Bool → ℕ → Option ℕ → Bool
noted_fits started clock None = not started
noted_fits started clock (Some noted) = started && nat_le noted clock

unfoldable pub all_sent : List Desk → ℕ → ℕ → Bool
all_sent desks announced e = every_below (sent_by desks announced e) MOST_DESKS

-- announced by desks below n alone, and only an entry below U; printed only when the wait is over
abbrev pub sticker_in_shape : Floor → ℕ → Sticker → Bool
sticker_in_shape fl e st =
    all_below (if nat_lt e fl.settings.entries then fl.settings.desks else 0) st.announced
    && all_sent fl.desks st.announced e
    && noted_fits (begun fl.settings.faults st.announced) fl.clock st.noted
    && (not st.printed || wait_over fl.settings fl.clock st)
