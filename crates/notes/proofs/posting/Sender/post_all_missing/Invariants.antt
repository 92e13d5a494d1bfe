use Rattle.std.proofs.Common.{◌≡◌, length, take}
use Rattle.sets.specs.Sets.{member}
use Rattle.rules.specs.Rules.{post_all, broadcasts}
use Rattle.notes.specs.Area.{laid}
use Rattle.notes.proofs.posting.Sender.post_all_missing.Given as goal

abbrev pub invariant-loop-entry : goal.invariant-loop-entry
invariant-loop-entry l =
    record {
      count : l.count ≡ length (post_all (take l.waiting l.fn.area) (broadcasts (member l.entries) l.self.time_out l.self.source l.self.desks l.entry));
      area : l.area ≡ laid l.waiting l.fn.area (post_all (take l.waiting l.fn.area) (broadcasts (member l.entries) l.self.time_out l.self.source l.self.desks l.entry));
    }
