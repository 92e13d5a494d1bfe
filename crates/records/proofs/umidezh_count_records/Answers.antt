use Rattle.std.proofs.Common.{rules}
use Rattle.records.proofs.CountLaws.{told}
use Rattle.records.proofs.umidezh_count_records.Goals as goal

pub returns : goal.returns
returns c =
    let run = c.count.ensures.runs in
    let source = c.take_while.ensures.runs run.0 run.0.seen run.1 in
    let chunks = c.chunks_exact.ensures.runs source.0 source.0.seen (search rules) in
    rw run.3 (told c.args.sequence.now c.args.sequence run.0 source.0 _ _ _ _ (search rules) (search rules) source.2 chunks run.2 (search rules) (λ x b f call. search rules))
