use Rattle.std.proofs.Common.{rules}
use Rattle.tables.proofs.TableLaws.{rows-few}
use Rattle.tables.proofs.reading.count_rows.Goals as goal

pub loop-answer-init : goal.loop-answer-init
loop-answer-init c = search (rules, rows-few)
