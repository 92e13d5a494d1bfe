-- A text's first field as the machine gives it.
use Rattle.std.specs.Prelude.{Bool, if◌then◌else◌, List, ℕ, ◌+◌, ◌-◌, length, Option, None}
use Rattle.tables.specs.declared.fields.Ending.{Ending}
use Rattle.tables.specs.declared.fields.Ending.TheVariants.{Another, Last, Broken}
use Rattle.tables.specs.declared.fields.Field.{Field}
use Rattle.tables.specs.Grammar.{Front, non_escaped, inside_quotes, field_of, ending_of, after_ending}
use Rattle.tables.specs.Numbers.{number_in}

-- what a field holds, inside quotes or without
abbrev pub held_of : Bool → List ℕ → Front ℕ
held_of quoted text = (if quoted then inside_quotes text else non_escaped text)

-- nothing is told of a field that breaks its row
abbrev pub broken_field : Field
broken_field = record { number = None; length = 0; ending = Broken }

abbrev pub ended_field : Ending → Option ℕ → ℕ → Field
ended_field Another number long = record { number = number; length = long; ending = Another }
ended_field Last number long = record { number = number; length = long; ending = Last }
ended_field Broken number long = broken_field

-- what was held takes so many bytes, and a text follows
abbrev pub ended_by : Option ℕ → ℕ → List ℕ → Field
ended_by number long after = ended_field (ending_of after) number (long + (length after - length (after_ending after)))

-- the number that the first field holds, and how many bytes the field takes with its ending
abbrev pub first_field : List ℕ → Field
first_field text =
    let field = field_of text in
    (if field.allowed then ended_by (number_in field.holds) (length text - length field.after) field.after else broken_field)
