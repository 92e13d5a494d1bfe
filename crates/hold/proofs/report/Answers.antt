use Rattle.std.proofs.Common.{rules, arith}
use Rattle.hold.proofs.PrintedLaws.{printed_most}
use Rattle.hold.proofs.report.Goals as goal

pub returns-in_err-write-clause-short : goal.returns-in_err-write-clause-short
returns-in_err-write-clause-short c =
    let taken = c.take_input-taken in
    printed_most _ taken.new.area c.args.input.now taken.result taken.new.hold (search rules) taken.ensures.taken taken.ensures.hold taken.ensures.area (omega arith) taken.ensures.shape

pub returns-clause-short : goal.returns-clause-short
returns-clause-short c =
    let taken = c.take_input-taken in
    printed_most _ taken.new.area c.args.input.now taken.result taken.new.hold (search rules) taken.ensures.taken taken.ensures.hold taken.ensures.area (omega arith) taken.ensures.shape
