use Rattle.std.proofs.Common.{ap, length, arith}
use Rattle.tables.proofs.ReaderLaws.{reader-done, reader-next}
use Rattle.tables.proofs.rows.RowsIterator.next.Goals as goal

pub returns-then-done-clause-steps : goal.returns-then-done-clause-steps
returns-then-done-clause-steps c = (search reader-done, search reader-done)

pub returns-clause-steps : goal.returns-clause-steps
returns-clause-steps c =
    rw (c.next_row.ensures.text, c.next_row.ensures.place)
    (reader-next c.args.self.now.text.now c.args.self.now.place c.done.ensures c.if-done.false c.next_row.ensures.row)

pub returns-clause-goes : goal.returns-clause-goes
returns-clause-goes c = record { on = λ _. (tt, tt, omega (arith, ap length (returns-clause-steps c))); keeps = tt; rests = λ _. tt }
