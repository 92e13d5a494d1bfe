use Rattle.std.proofs.Common.{◌≡◌, ◌≤◌, ◌*◌}
use Rattle.sets.specs.Sets.{member}
use Rattle.rules.specs.Rules.{broadcasts}
use Rattle.notes.specs.Posting.{new_count}
use Rattle.notes.proofs.posting.Sender.all_missing.Given as goal

abbrev pub invariant-loop-e : goal.invariant-loop-e
invariant-loop-e l =
    record { is : l.new ≡ new_count l.notes (broadcasts (member l.entries) l.self.time_out l.self.source l.self.desks l.e); few : l.new ≤ 255 * l.e }
