use Rattle.std.proofs.Common.{◌≡◌, ◌≤◌}
use Rattle.rules.specs.Rules.{broadcast}
use Rattle.notes.specs.Posting.{new_count}
use Rattle.notes.proofs.posting.Sender.missing_of_many.Given as goal

abbrev pub invariant-loop-number : goal.invariant-loop-number
invariant-loop-number l = record { is : l.count ≡ new_count l.notes (broadcast l.self.time_out l.self.source l.fn.entry l.number); few : l.count ≤ l.number }
