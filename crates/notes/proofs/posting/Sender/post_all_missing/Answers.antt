use Rattle.std.proofs.Common.{◌≡◌, ◌∙◌, ◌+◌, take, length, get_or, true, false, sym, arith}
use Rattle.std.proofs.lemmas.List.{get_or_default}
use Rattle.sets.specs.Sets.{member}
use Rattle.rules.specs.Rules.{post_all, broadcast, broadcasts}
use Rattle.rules.proofs.PostLaws.{post_all_grows}
use Rattle.notes.specs.Area.{laid}
use Rattle.notes.proofs.AreaLaws.{take_laid, laid_then}
use Rattle.notes.proofs.PostingLaws.{posted_grows, all_posted_waits, all_posted_yes, all_posted_no, all_posted_le}
use Rattle.notes.proofs.posting.Sender.post_all_missing.Goals as goal
use Rattle.notes.proofs.posting.Sender.post_all_missing.Goals.{then-has, else-has}

pub post_missing-count-requires-clause-reached : goal.post_missing-count-requires-clause-reached
post_missing-count-requires-clause-reached c =
    λ j low.
    let ns = take c.args.waiting c.args.area.now in
    let t = c.args.self.now.time_out in
    let i = c.args.self.now.source in
    let n = c.args.self.now.desks in
    let same : get_or c.args.reached.now c.loop-entry.entry c.index-reached-entry.result ≡ get_or c.args.reached.now c.loop-entry.entry 0 = get_or_default c.args.reached.now c.loop-entry.entry c.index-reached-entry.result 0 (omega arith) in
    let front : take c.loop-entry.count c.loop-entry.area ≡ post_all ns (broadcasts (member c.args.entries) t i n c.loop-entry.entry) =
    rw (c.loop-entry.invariant.area, c.loop-entry.invariant.count) (take_laid c.args.waiting c.args.area.now _) in
    rw (same, front, all_posted_waits ns (member c.args.entries) t i n c.loop-entry.entry j c.loop-entry.entry (omega arith) (omega arith))
    (c.requires.reached c.loop-entry.entry (omega arith) j low)

pub post_missing-count-requires-clause-room : goal.post_missing-count-requires-clause-room
post_missing-count-requires-clause-room c =
    let ns = take c.args.waiting c.args.area.now in
    let t = c.args.self.now.time_out in
    let i = c.args.self.now.source in
    let n = c.args.self.now.desks in
    let due : member c.args.entries c.loop-entry.entry ≡ true = sym c.has.ensures ∙ c.if-has.true in
    let front : take c.loop-entry.count c.loop-entry.area ≡ post_all ns (broadcasts (member c.args.entries) t i n c.loop-entry.entry) =
    rw (c.loop-entry.invariant.area, c.loop-entry.invariant.count) (take_laid c.args.waiting c.args.area.now _) in
    let most = all_posted_le ns (member c.args.entries) t i n c.loop-entry.entry c.args.u c.loop-entry-test.true in
    rw (front, ← all_posted_yes ns (member c.args.entries) t i n c.loop-entry.entry due) (omega (arith, most))

pub loop-entry-preserved : goal.loop-entry-preserved
loop-entry-preserved c =
    let ns = take c.args.waiting c.args.area.now in
    let t = c.args.self.now.time_out in
    let i = c.args.self.now.source in
    let n = c.args.self.now.desks in
    let before = post_all ns (broadcasts (member c.args.entries) t i n c.loop-entry.entry) in
    elim c.if-has.branch [
      | then-has w ↦
          (let due : member c.args.entries c.loop-entry.entry ≡ true = sym c.has.ensures ∙ w.if-has.true in
          let front : take c.loop-entry.count c.loop-entry.area ≡ before =
          rw (c.loop-entry.invariant.area, c.loop-entry.invariant.count) (take_laid c.args.waiting c.args.area.now _) in
          let after = post_all before (broadcast t i c.loop-entry.entry n) in
          let more : post_all ns (broadcasts (member c.args.entries) t i n (c.loop-entry.entry + 1)) ≡ after = all_posted_yes ns (member c.args.entries) t i n c.loop-entry.entry due in
          let count : w.post_missing-count.result ≡ length after = rw front at w.post_missing-count.ensures.count in
          let area : w.post_missing-count.new.area ≡ laid c.loop-entry.count c.loop-entry.area after = rw front at w.post_missing-count.ensures.area in
          record {
            count = rw more (w.count-is ∙ count);
            area = rw (more, w.area-is)
                (laid_then c.args.waiting c.args.area.now before after c.loop-entry.area w.post_missing-count.new.area c.loop-entry.count
                (posted_grows c.args.waiting c.args.area.now (broadcasts (member c.args.entries) t i n c.loop-entry.entry) c.requires.waiting)
                (post_all_grows before (broadcast t i c.loop-entry.entry n)).0
                c.loop-entry.invariant.count
                c.loop-entry.invariant.area
                area);
          })
      | else-has w ↦
          (let not_due : member c.args.entries c.loop-entry.entry ≡ false = sym c.has.ensures ∙ w.if-has.false in
          let same = all_posted_no ns (member c.args.entries) t i n c.loop-entry.entry not_due in
          record {
            count = rw (w.count-is, same) c.loop-entry.invariant.count;
            area = rw (w.area-is, same) c.loop-entry.invariant.area;
          })
    ]
