use Rattle.rules.proofs.SearchLaws.{none_speaks, speaks_none}
use Rattle.rules.proofs.theorems.none_found_where_none_waits.Goals as goal

pub returns : goal.returns
returns c = λ i j e ns. (none_speaks i j e ns, speaks_none i j e ns)
