use Rattle.std.proofs.Common.{arith}
use Rattle.std.proofs.lemmas.Grind.{common_steps}
use Rattle.floors.specs.Floors.{desk_of}
use Rattle.floors.proofs.PassOn.{due_notes, due_marks}
use Rattle.floors.proofs.Floor.pass_on.Goals as goal

pub returns-in_err-self-clause-answer : goal.returns-in_err-self-clause-answer
returns-in_err-self-clause-answer c =
    let count = rw (c.due-due.ensures, due_notes c.args.self.now.settings (desk_of c.args.self.now c.args.desk)) at c.post_broadcasts.ensures.count in
    grind (arith, count)

pub returns-in_err-self-clause-floor : goal.returns-in_err-self-clause-floor
returns-in_err-self-clause-floor c =
    let count = rw (c.due-due.ensures, due_notes c.args.self.now.settings (desk_of c.args.self.now c.args.desk)) at c.post_broadcasts.ensures.count in
    grind (arith, common_steps, count)

pub returns-in_err-self-clause-area : goal.returns-in_err-self-clause-area
returns-in_err-self-clause-area c =
    let count = rw (c.due-due.ensures, due_notes c.args.self.now.settings (desk_of c.args.self.now c.args.desk)) at c.post_broadcasts.ensures.count in
    let area = rw (c.due-due.ensures, due_notes c.args.self.now.settings (desk_of c.args.self.now c.args.desk)) at c.post_broadcasts.ensures.area in
    grind (arith, common_steps, count, area)

pub returns-clause-answer : goal.returns-clause-answer
returns-clause-answer c =
    let count = rw (c.due-due.ensures, due_notes c.args.self.now.settings (desk_of c.args.self.now c.args.desk)) at c.post_broadcasts.ensures.count in
    grind (arith, count)

pub returns-clause-floor : goal.returns-clause-floor
returns-clause-floor c =
    let count = rw (c.due-due.ensures, due_notes c.args.self.now.settings (desk_of c.args.self.now c.args.desk)) at c.post_broadcasts.ensures.count in
    let desk = rw c.due-due.ensures at c.pass_on.ensures in
    grind (arith, common_steps, count, desk, due_marks c.args.self.now.settings (desk_of c.args.self.now c.args.desk))

pub returns-clause-area : goal.returns-clause-area
returns-clause-area c =
    let count = rw (c.due-due.ensures, due_notes c.args.self.now.settings (desk_of c.args.self.now c.args.desk)) at c.post_broadcasts.ensures.count in
    let area = rw (c.due-due.ensures, due_notes c.args.self.now.settings (desk_of c.args.self.now c.args.desk)) at c.post_broadcasts.ensures.area in
    grind (arith, common_steps, count, area)
