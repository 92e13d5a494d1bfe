use Rattle.std.proofs.Common.{length}
use Rattle.std.specs.Io.KnownBytes.{Keeps, append_known}
use Rattle.inputs.proofs.blocks.BlockWriterWrite.flush.Given as goal

abbrev pub invariant-loop-self : goal.invariant-loop-self
invariant-loop-self g l = Keeps (append_known (g.W.Write.contents l.initial.self.to) l.initial.self.block.items) (append_known (g.W.Write.contents l.self.to) l.self.block.items)

abbrev pub decreases-loop-self : goal.decreases-loop-self
decreases-loop-self g l = length l.self.block.items
