use Rattle.std.proofs.Common.{arith, rules}
use Rattle.tables.proofs.NextLaws.{read_none, next-within, next_less, read_next, read-last, read-broken}
use Rattle.tables.proofs.rows.row_at.Goals as goal

pub loop-numbers-init : goal.loop-numbers-init
loop-numbers-init c = search read_none

pub overflow_add-at : goal.overflow_add-at
overflow_add-at c = omega (arith, next-within _ _ c.loop-numbers.invariant c.first_field-field.ensures)

pub loop-numbers-smaller : goal.loop-numbers-smaller
loop-numbers-smaller c = search next_less

pub loop-numbers-preserved : goal.loop-numbers-preserved
loop-numbers-preserved c = read_next _ _ c.loop-numbers.invariant c.first_field-field.ensures c.keep.ensures (search rules)

pub returns-in-Last : goal.returns-in-Last
returns-in-Last c = search read-last

pub returns-in-Broken : goal.returns-in-Broken
returns-in-Broken c = search read-broken
