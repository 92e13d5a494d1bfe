use Rattle.std.proofs.Common.{◌≡◌, ◌≤◌}
use Rattle.rules.specs.Rules.{broadcast}
use Rattle.notes.specs.Posting.{new_count}
use Rattle.notes.proofs.posting.Sender.missing.Given as goal

abbrev pub invariant-loop-j : goal.invariant-loop-j
invariant-loop-j l = record { is : l.new ≡ new_count l.notes (broadcast l.self.time_out l.self.source l.fn.entry l.j); few : l.new ≤ l.j }
