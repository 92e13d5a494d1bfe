use Rattle.std.proofs.Common.{rules, arith}
use Rattle.std.proofs.lemmas.Grind.{put_two}
use Rattle.rules.specs.Rules.{last_number}
use Rattle.reports.specs.Lines.{heading_text}
use Rattle.hold.specs.Text.{entries_noted, hold_text}
use Rattle.hold.proofs.TextLaws.{all_noted}
use Rattle.hold.proofs.text.HoldLinesDisplay.fmt.Goals as goal

pub returns-clause-writes : goal.returns-clause-writes
returns-clause-writes g c plain ok =
    let o = c.args.self.now in
    put_two _ c.args.f.now c.write.new.self c.loop-e.f (heading_text o.count (last_number o.refusal) o.hold.now.floor) (entries_noted c.loop-e.e o.hold.now o.area.now)
    (hold_text o.count (last_number o.refusal) o.hold.now o.area.now) (search rules) (c.loop-e.invariant (search rules))
    (all_noted o.count (last_number o.refusal) o.hold.now o.area.now c.loop-e.e (omega arith) (search rules))
