use mathlib.Core.Path.{refl}
use Rattle.sets.specs.Counting.{count}
use Rattle.sets.specs.Sets.{member, insert, insert_all, all_below}
use Rattle.rules.proofs.theorems.twelve_cases_hold.Goals as goal

-- by computation
pub returns : goal.returns
unfolding count member insert insert_all all_below
returns c = refl
