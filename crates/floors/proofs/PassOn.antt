-- What a desk passes on, by the set of the entries that are due. Assumes nothing.
use Rattle.std.proofs.Common.{◌≡◌, ℕ, bit_or}
use Rattle.sets.specs.Sets.{member, insert_all}
use Rattle.sets.proofs.InsertAllLaws.{insert_all_member, insert_all_or}
use Rattle.rules.specs.declared.Settings.{Settings}
use Rattle.rules.specs.declared.Desk.{Desk}
use Rattle.rules.specs.Rules.{due, broadcasts}
use Rattle.rules.proofs.BroadcastLaws.{broadcasts_same}

module _ (k : Settings) (d : Desk) where
  pub due_notes : (t i n : ℕ) → broadcasts (member (insert_all (due k d) 0 k.entries)) t i n k.entries ≡ broadcasts (due k d) t i n k.entries
  due_notes t i n = broadcasts_same (member (insert_all (due k d) 0 k.entries)) (due k d) t i n k.entries (insert_all_member (due k d) k.entries)

  pub due_marks : bit_or d.sent (insert_all (due k d) 0 k.entries) ≡ insert_all (due k d) d.sent k.entries
  due_marks = insert_all_or (due k d) d.sent k.entries
