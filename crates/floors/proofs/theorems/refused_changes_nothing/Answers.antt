use Rattle.std.proofs.Common.{sym}
use Rattle.floors.proofs.Refused.{record_stays}
use Rattle.floors.proofs.theorems.refused_changes_nothing.Goals as goal

pub returns : goal.returns
returns c fl area r refusal e = record_stays fl area r refusal (sym e)
