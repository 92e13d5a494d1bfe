use Rattle.std.proofs.Common.{refl}
use Rattle.tables.specs.Grammar.{textdata, separator, row_in, row_of}
use Rattle.tables.specs.Examples.{examples, broken_texts, AllRead, AllBroken}
use Rattle.tables.proofs.theorems.examples_are_read.Goals as goal

pub returns : goal.returns
unfolding AllRead AllBroken examples broken_texts row_of row_in separator textdata
returns c = ((refl, (refl, (refl, (refl, (refl, tt))))), (refl, (refl, (refl, (refl, (refl, (refl, (refl, tt))))))))
