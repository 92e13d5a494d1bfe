-- What a program makes of its input. Assumes nothing.
use Rattle.std.specs.Prelude.{if◌then◌else◌, List, ℕ, nat_lt, length, Some}
use Rattle.rules.specs.declared.Refusal.TheVariants.{Length}
use Rattle.floors.specs.Floors.{no_floor}
use Rattle.runs.specs.Runs.{Went, whole_of}

-- too long an input is refused, whatever its bytes are
abbrev pub of_input : {A : Type 0} → ℕ → List ℕ → A → A → A
of_input most input refused taken = if nat_lt most (length input) then refused else taken

-- too long a sequence is refused before anything else: there is no floor, and the area stays
abbrev pub too_long : List ℕ → Went
too_long area = record { ran = record { count = 0; new_sources = 0; refusal = Some Length }; floor = no_floor; area = area }

abbrev pub input_went : List ℕ → List ℕ → Went
input_went area input = of_input 65536 input (too_long area) (whole_of area input)
