use Rattle.std.proofs.Common.{◌≡◌, refl, rules}
use Rattle.tables.specs.Fields.{held_of}
use Rattle.tables.proofs.HeldLaws.{held-rest, held-number, held-none, comma_left}
use Rattle.tables.proofs.fields.held.Goals as goal

pub returns-then-rest-others-clause-number : goal.returns-then-rest-others-clause-number
returns-then-rest-others-clause-number c = search held-number

pub returns-then-rest-others-clause-rest : goal.returns-then-rest-others-clause-rest
returns-then-rest-others-clause-rest c = search held-rest

pub returns-else-rest-others-clause-number : goal.returns-else-rest-others-clause-number
returns-else-rest-others-clause-number c = search held-none

pub returns-else-rest-others-clause-rest : goal.returns-else-rest-others-clause-rest
returns-else-rest-others-clause-rest c = search held-rest

pub returns-clause-number : goal.returns-clause-number
returns-clause-number c =
    let left : c.digits-number.result.1.now ≡ (held_of c.args.quoted c.digits-number.result.1.now).after = search (rules, comma_left) in
    held-number c.args.quoted c.args.text.now c.digits-number.ensures.rest left c.digits-number.ensures.number refl

pub returns-clause-rest : goal.returns-clause-rest
returns-clause-rest c =
    let left : c.digits-number.result.1.now ≡ (held_of c.args.quoted c.digits-number.result.1.now).after = search (rules, comma_left) in
    held-rest c.args.quoted c.args.text.now c.digits-number.ensures.rest left
