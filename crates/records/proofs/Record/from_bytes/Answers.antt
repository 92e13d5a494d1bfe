use Rattle.std.proofs.Common.{arith, rules}
use Rattle.records.specs.Records.{fields_of}
use Rattle.records.proofs.RecordLaws.{bytes-again}
use Rattle.records.proofs.Record.from_bytes.Goals as goal

pub returns-clause-again : goal.returns-clause-again
unfolding fields_of
returns-clause-again c =
    rw (c.number_at.ensures, c.number_at-2.ensures, c.number_at-3.ensures) (bytes-again c.args.bytes.now (omega arith) (λ k. search rules))
