use Rattle.std.proofs.Common.{◌≡◌, true}
use Rattle.rules.specs.Rules.{every_below}
use Rattle.holds.specs.Stickers.{sent_by}
use Rattle.holds.proofs.Sticker.is_sent.Given as goal

abbrev pub invariant-loop-i : goal.invariant-loop-i
invariant-loop-i l = every_below (sent_by l.floor.desks l.self.announced l.entry) l.i ≡ true
