use Rattle.std.proofs.Common.{rules, arith}
use Rattle.floor.proofs.PrintedLaws.{printed_most}
use Rattle.floor.proofs.report.Goals as goal

pub returns-in_err-write-clause-short : goal.returns-in_err-write-clause-short
returns-in_err-write-clause-short c =
    let ran = c.run_input-ran in
    printed_most _ c.args.input.now ran.result ran.new.floor ran.new.area (search rules) ran.ensures.ran ran.ensures.floor (omega arith) ran.ensures.shape

pub returns-clause-short : goal.returns-clause-short
returns-clause-short c =
    let ran = c.run_input-ran in
    printed_most _ c.args.input.now ran.result ran.new.floor ran.new.area (search rules) ran.ensures.ran ran.ensures.floor (omega arith) ran.ensures.shape
