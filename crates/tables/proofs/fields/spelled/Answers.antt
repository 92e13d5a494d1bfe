use Rattle.std.proofs.Common.{arith}
use Rattle.tables.proofs.NumberLaws.{digits-number}
use Rattle.tables.proofs.fields.spelled.Goals as goal

pub returns : goal.returns
returns c =
    digits-number _ c.args.text.now c.requires.value c.try_from.ensures (omega arith)
    (λ more zero. grind arith) c.ok.ensures.value
