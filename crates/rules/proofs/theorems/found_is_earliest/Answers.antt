use Rattle.rules.proofs.SearchLaws.{found, found_is}
use Rattle.rules.proofs.theorems.found_is_earliest.Goals as goal

pub returns : goal.returns
returns c = λ i j e ns k. (found i j e ns k, found_is i j e ns k)
