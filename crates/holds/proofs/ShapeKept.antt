-- What every action and every print keeps of the shape of a sticker: when the clock goes on and marks are set, when a desk announces the
-- entry, and when the sticker is printed. Assumes nothing.
use Rattle.std.proofs.Common.{◌≡◌, ℕ, ◌+◌, ◌^◌, ◌≤◌, ◌<◌, Bool, true, false, not, nat_lt, nat_le, get_or, Option, Some, None, subst, refl, sym, ap, arith}
use mathlib.Core.Logic.{◌⊎◌, ⊎_elim}
use native.Mathlib.Nat.{le_trans}
use lib.Pow.{pow_pos}
use borrow.Author.Tests.{le-leb, leb-true, lt-leb, lt-ltb, ltb-true}
use Rattle.sets.specs.Sets.{member, insert, size}
use Rattle.sets.proofs.Tests.{clash, decided, cond_true, and_left, and_right, and_both}
use Rattle.sets.proofs.CountLaws.{count_mono}
use Rattle.sets.proofs.MemberLaws.{insert_lt, insert_keeps, insert_cases, insert_below_low, member_zero}
use Rattle.sets.proofs.SizeLaws.{size_empty}
use Rattle.rules.specs.declared.Settings.{Settings}
use Rattle.rules.specs.Rules.{wait, no_desk, is_sent}
use Rattle.floors.specs.declared.Floor.{Floor}
use Rattle.holds.specs.declared.Sticker.{Sticker}
use Rattle.holds.specs.Stickers.{fresh_sticker, begun, clock_noted, announced_by, is_past, wait_over, noted_fits}
use Rattle.holds.proofs.StickerLaws.{most, StickerShape}

-- ---- the wait

-- a desk more is not fewer
pub begun_more : (f announced d : ℕ) → begun f announced ≡ true → begun f (insert announced d) ≡ true
begun_more f announced d b =
    le-leb (f + 1) (size 16 (insert announced d))
    (le_trans (leb-true (f + 1) (size 16 announced) b) (count_mono (member announced) (member (insert announced d)) 16 (λ i l has. insert_keeps announced d i has)))

is_past_later : (k : Settings) (clock clock' : ℕ) (noted : Option ℕ) → clock ≤ clock' → is_past k clock noted ≡ true → is_past k clock' noted ≡ true
is_past_later k clock clock' None on h = h
is_past_later k clock clock' (Some noted) on h =
    let last = noted + wait k in
    let past : last < clock = ltb-true last clock h in
    lt-ltb last clock' (omega (arith, past, on))

noted_fits_later : (started : Bool) (clock clock' : ℕ) (noted : Option ℕ) → clock ≤ clock' → noted_fits started clock noted ≡ true → noted_fits started clock' noted ≡ true
noted_fits_later started clock clock' None on h = h
noted_fits_later started clock clock' (Some noted) on h =
    and_both started (nat_le noted clock') (and_left started (nat_le noted clock) h)
    (le-leb noted clock' (le_trans (leb-true noted clock (and_right started (nat_le noted clock) h)) on))

-- ---- a clock that is noted stays

module _ (f before after clock : ℕ) (noted : Option ℕ) where
  pub noted_again : begun f before ≡ true → clock_noted f before after clock noted ≡ noted
  noted_again b = rw b refl

  pub noted_first : begun f before ≡ false → begun f after ≡ true → clock_noted f before after clock noted ≡ Some clock
  noted_first b a = rw (b, a) refl

  pub noted_none : begun f before ≡ false → begun f after ≡ false → clock_noted f before after clock noted ≡ noted
  noted_none b a = rw (b, a) refl

-- ---- the clock goes on, and no mark is lost

module _ (fl fl' : Floor) (e : ℕ) (st : Sticker) (ok : StickerShape fl e st) (same : fl'.settings ≡ fl.settings) (on : fl.clock ≤ fl'.clock)
    (grown : (i : ℕ) → i < 16 → is_sent (get_or fl.desks i no_desk) e ≡ true → is_sent (get_or fl'.desks i no_desk) e ≡ true) where
  abbrev k : Settings
  k = fl.settings

  later_over : wait_over k fl.clock st ≡ true → wait_over k fl'.clock st ≡ true
  later_over h =
      and_both (begun k.faults st.announced) (is_past k fl'.clock st.noted) (and_left (begun k.faults st.announced) (is_past k fl.clock st.noted) h)
      (is_past_later k fl.clock fl'.clock st.noted on (and_right (begun k.faults st.announced) (is_past k fl.clock st.noted) h))

  pub later_shape : StickerShape fl' e st
  later_shape =
      rw same
      (record {
        inside = ok.inside;
        marked = λ i l has. grown i l (ok.marked i l has);
        noted = noted_fits_later (begun k.faults st.announced) fl.clock fl'.clock st.noted on ok.noted;
        waited = λ p. later_over (ok.waited p);
      })

  -- desk d announces the entry, and has its mark
  pub announced_shape : (d : ℕ) → d < k.desks → k.desks ≤ 16 → e < k.entries → is_sent (get_or fl'.desks d no_desk) e ≡ true → StickerShape fl' e (announced_by d k.faults fl.clock st)
  announced_shape d desk few entry mark =
      rw (same, insert_below_low 16 st.announced d (omega (arith, desk, few)))
      (record {
        inside = rw all (insert_lt k.desks st.announced d (subst (λ (n : ℕ). st.announced < 2 ^ n) all ok.inside) desk);
        marked = λ i l has. ⊎_elim (λ here. subst (λ (j : ℕ). is_sent (get_or fl'.desks j no_desk) e ≡ true) (sym here) mark) (λ was. grown i l (ok.marked i l was)) (insert_cases st.announced d i has);
        noted = ⊎_elim again first (decided (begun k.faults st.announced));
        waited = λ p.
            let over = later_over (ok.waited p) in
            let b = and_left (begun k.faults st.announced) (is_past k fl'.clock st.noted) over in
            and_both (begun k.faults announced) (is_past k fl'.clock (clock_noted k.faults st.announced announced fl.clock st.noted)) (begun_more k.faults st.announced d b)
            (rw (noted_again k.faults st.announced announced fl.clock st.noted b) (and_right (begun k.faults st.announced) (is_past k fl'.clock st.noted) over));
      })
    where
      announced : ℕ
      announced = insert st.announced d

      all : most k e ≡ k.desks
      all = cond_true (nat_lt e k.entries) k.desks 0 (lt-ltb e k.entries entry)

      Fits : Option ℕ → Type 0
      Fits noted = noted_fits (begun k.faults announced) fl'.clock noted ≡ true

      again : begun k.faults st.announced ≡ true → Fits (clock_noted k.faults st.announced announced fl.clock st.noted)
      again b =
          let still = begun_more k.faults st.announced d b in
          rw (noted_again k.faults st.announced announced fl.clock st.noted b, still)
          (subst (λ (started : Bool). noted_fits started fl'.clock st.noted ≡ true) b (noted_fits_later (begun k.faults st.announced) fl.clock fl'.clock st.noted on ok.noted))

      first : begun k.faults st.announced ≡ false → Fits (clock_noted k.faults st.announced announced fl.clock st.noted)
      first n =
          ⊎_elim
          (λ b. rw (noted_first k.faults st.announced announced fl.clock st.noted n b, b) (le-leb fl.clock fl'.clock on))
          (λ b. rw (noted_none k.faults st.announced announced fl.clock st.noted n b, b)
          (subst (λ (started : Bool). noted_fits started fl'.clock st.noted ≡ true) n (noted_fits_later (begun k.faults st.announced) fl.clock fl'.clock st.noted on ok.noted)))
          (decided (begun k.faults announced))

-- the sticker is printed only where it was, or where the wait is over
pub printed_shape : (fl : Floor) (e : ℕ) (st : Sticker) (printed : Bool) → StickerShape fl e st
    → (printed ≡ true → (st.printed ≡ true) ⊎ (wait_over fl.settings fl.clock st ≡ true)) → StickerShape fl e (record st { printed = printed })
printed_shape fl e st printed ok why =
    record { inside = ok.inside; marked = ok.marked; noted = ok.noted; waited = λ p. ⊎_elim ok.waited (λ over. over) (why p) }

-- nothing is noted
pub fresh_shape : (fl : Floor) (e : ℕ) → StickerShape fl e fresh_sticker
fresh_shape fl e =
    record {
      inside = pow_pos (most fl.settings e);
      marked = λ i l has. clash (member 0 i) has (member_zero i);
      noted = none_begun fl.settings.faults;
      waited = λ p. clash false p refl;
    }
  where
    none_begun : (f : ℕ) → not (begun f 0) ≡ true
    none_begun f = ap not (lt-leb (f + 1) (size 16 0) (rw (size_empty 16) (omega arith)))
