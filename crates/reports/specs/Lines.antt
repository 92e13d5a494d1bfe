-- What the programs print, as lists of bytes. Assumes nothing.
use Rattle.std.specs.Prelude.{Bool, if◌then◌else◌, List, [], ◌++◌, ℕ, zero, suc, min, ◌==◌, slice_index_or, codes}
use Rattle.sets.specs.Sets.{member}
use Rattle.rules.specs.declared.Desk.{Desk}
use Rattle.rules.specs.Rules.{no_desk}
use Rattle.floors.specs.declared.Floor.{Floor}
use Rattle.reports.specs.Texts.{field_text, two_numbers}

-- the entries below k in a set, rising, each with a space in front
abbrev pub entries_below : ℕ → ℕ → List ℕ
entries_below zero set = []
entries_below (suc k) set = entries_below k set ++ (if member set k then field_text (codes " ") k else [])

-- the entries of a list, or `-`
abbrev pub entries_text : ℕ → List ℕ
entries_text set = if set == 0 then codes " -" else entries_below 64 set

abbrev pub mark_text : Bool → List ℕ
mark_text faulty = if faulty then codes "faulty" else codes "good"

abbrev pub desk_line : ℕ → Desk → List ℕ
desk_line number d =
    field_text (codes "desk ") number
    ++ (codes " " ++ (mark_text d.faulty ++ (field_text (codes " ") d.pass_on ++ (field_text (codes " ") d.accept ++ (entries_text d.listed ++ codes "\n")))))

-- the lines of the desks below k
abbrev pub desks_below : ℕ → List Desk → List ℕ
desks_below zero ds = []
desks_below (suc k) ds = desks_below k ds ++ desk_line k (slice_index_or ds k no_desk)

-- what every report begins with: one line without a floor
abbrev pub heading_text : ℕ → ℕ → Floor → List ℕ
heading_text count answer fl =
    two_numbers (codes "ran ") count (codes " answer ") answer
    ++ (if fl.settings.desks == 0 then [] else two_numbers (codes "clock ") fl.clock (codes " pending ") fl.waiting)

-- ALL THAT `floor` PRINTS: without a floor there is no desk. A floor has at most 16.
unfoldable pub outcome_text : ℕ → ℕ → Floor → List ℕ
outcome_text count answer fl = heading_text count answer fl ++ desks_below (min fl.settings.desks 16) fl.desks
