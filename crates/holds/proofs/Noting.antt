-- What is noted of one entry is what the rules' run says of it, action by action. Assumes nothing.
use Rattle.std.proofs.Common.{◌≡◌, ◌∙◌, ℕ, ◌+◌, ◌^◌, ◌≤◌, ◌<◌, Bool, true, false, ◌&&◌, ◌||◌, nat_eq, List, [], ◌∷◌, ◌++◌, Option, Some, None, subst, sym, ap, arith}
use mathlib.Core.Bool.{or-false}
use mathlib.Core.Logic.{⊎_elim}
use native.Mathlib.Nat.{le_refl, le_trans}
use lib.Pow.{pow_pos}
use borrow.Author.Tests.{le-leb, leb-true, lt-leb}
use Rattle.sets.specs.Counting.{count}
use Rattle.sets.specs.Sets.{member, insert, size}
use Rattle.sets.proofs.Tests.{clash, decided, le_or_lt}
use Rattle.sets.proofs.CountLaws.{count_ext, count_mono}
use Rattle.sets.proofs.MemberLaws.{member_zero, member_insert, insert_lt}
use Rattle.sets.proofs.SizeLaws.{size_empty, size_in}
use Rattle.rules.specs.declared.Settings.{Settings}
use Rattle.rules.specs.declared.Action.{Action}
use Rattle.rules.specs.Rules.{State, fresh, next}
use Rattle.rules.proofs.Effects.{next_kept}
use Rattle.agreement.specs.View.{announcers}
use Rattle.agreement.specs.Wait.{announces, view, floor_after, AnnouncedBy}
use Rattle.agreement.proofs.AfterLaws.{after_none, after_next, after_both}
use Rattle.agreement.proofs.Spread.{announced_none, announced_last, announced_later}
use Rattle.agreement.proofs.WaitIsEnough.{announced_more}
use Rattle.holds.specs.Stickers.{begun, clock_noted}
use Rattle.holds.specs.FirstClock.{FirstBy}
use Rattle.holds.proofs.ShapeKept.{noted_again, noted_first}

-- with one action more the floor is the rules' next
pub one_more : (k : Settings) (actions : List Action) (m : Action) → floor_after k (actions ++ m ∷ []) ≡ next (floor_after k actions) m
one_more k actions m = after_both (fresh k) actions (m ∷ []) ∙ after_next (floor_after k actions) m [] ∙ after_none (next (floor_after k actions) m)

module _ (k : Settings) (few : k.desks ≤ 16) (e : ℕ) where
  -- the desks are those that have announced entry e by the clock of the floor, and once the wait has begun the first clock by which they had
  -- is noted; that nothing is noted before is part of the shape
  pub record Noting (actions : List Action) (desks : ℕ) (noted : Option ℕ) : Type 0 where
    pub below : desks < 2 ^ k.desks
    pub who : (T : ℕ) → (floor_after k actions).clock ≤ T → (i : ℕ) → member desks i ≡ announcers (view e) T (fresh k) actions i
    pub first : begun k.faults desks ≡ true → (T : ℕ) × (noted ≡ Some T) × FirstBy k e actions T

  enough_begun : (desks : ℕ) → k.faults + 1 ≤ size 16 desks → begun k.faults desks ≡ true
  enough_begun desks h = le-leb (k.faults + 1) (size 16 desks) h

  begun_enough : (desks : ℕ) → begun k.faults desks ≡ true → k.faults + 1 ≤ size 16 desks
  begun_enough desks h = leb-true (k.faults + 1) (size 16 desks) h

  -- nothing was done
  pub noting_none : Noting [] 0 None
  noting_none =
      record {
        below = pow_pos k.desks;
        who = λ T l i. member_zero i ∙ sym (announced_none (view e) T (fresh k) i);
        first = λ b. clash (begun k.faults 0) b (lt-leb (k.faults + 1) (size 16 0) (rw (size_empty 16) (omega arith)));
      }

  -- ---- when the wait has begun

  -- n desks are counted as sixteen are
  as_many : (told : ℕ → Bool) (desks : ℕ) → desks < 2 ^ k.desks → ((i : ℕ) → told i ≡ member desks i) → count told k.desks ≡ size 16 desks
  as_many told desks below same = count_ext told (member desks) k.desks (λ i l. same i) ∙ sym (size_in 16 k.desks desks few below)

  -- who has announced by a clock has by every later one
  by_later : (actions : List Action) (t T : ℕ) → t ≤ T → AnnouncedBy k e actions t → AnnouncedBy k e actions T
  by_later actions t T l announced =
      le_trans announced
      (count_mono (announcers (view e) t (fresh k) actions) (announcers (view e) T (fresh k) actions) k.desks (λ i b told. announced_later (view e) t T l (fresh k) actions i told))

  module _ (actions : List Action) (desks : ℕ) (noted : Option ℕ) (g : Noting actions desks noted) where
    abbrev s : State
    s = floor_after k actions

    counted : (T : ℕ) → s.clock ≤ T → count (announcers (view e) T (fresh k) actions) k.desks ≡ size 16 desks
    counted T l = as_many (announcers (view e) T (fresh k) actions) desks g.below (λ i. sym (g.who T l i))

    pub begun_announced : begun k.faults desks ≡ true → AnnouncedBy k e actions s.clock
    begun_announced b = omega (arith, begun_enough desks b, counted s.clock (le_refl s.clock))

    pub announced_begun : (T : ℕ) → AnnouncedBy k e actions T → begun k.faults desks ≡ true
    announced_begun T announced =
        enough_begun desks (⊎_elim (λ l. enough T l announced) (λ l. enough s.clock (le_refl s.clock) (by_later actions T s.clock (omega arith) announced)) (le_or_lt s.clock T))
      where
        enough : (t : ℕ) → s.clock ≤ t → AnnouncedBy k e actions t → k.faults + 1 ≤ size 16 desks
        enough t l a = omega (arith, counted t l)

    -- ---- one action more

    module _ (m : Action) where
      abbrev more : List Action
      more = actions ++ m ∷ []

      onward : (T : ℕ) → (floor_after k more).clock ≤ T → s.clock ≤ T
      onward T l = le_trans (subst (λ (t : State). s.clock ≤ t.clock) (sym (one_more k actions m)) (next_kept s m).clock) l

      -- by a clock before this one as without the action; by this one and every later what the desks say, and what the action does
      before : (t : ℕ) → t < s.clock → (i : ℕ) → announcers (view e) t (fresh k) more i ≡ announcers (view e) t (fresh k) actions i
      before t l i =
          announced_last (view e) t (fresh k) actions m i
          ∙ ap (λ (b : Bool). announcers (view e) t (fresh k) actions i || (b && announces e s m i)) (lt-leb s.clock t l)
          ∙ or-false (announcers (view e) t (fresh k) actions i)

      from_now : (T : ℕ) → s.clock ≤ T → (i : ℕ) → announcers (view e) T (fresh k) more i ≡ (member desks i || announces e s m i)
      from_now T l i =
          announced_last (view e) T (fresh k) actions m i
          ∙ ap (λ (b : Bool). announcers (view e) T (fresh k) actions i || (b && announces e s m i)) (le-leb s.clock T l)
          ∙ ap (λ (b : Bool). b || announces e s m i) (sym (g.who T l i))

      was_before : (t : ℕ) → t < s.clock → AnnouncedBy k e more t → AnnouncedBy k e actions t
      was_before t l announced =
          subst (λ (n : ℕ). k.faults + 1 ≤ n) (count_ext (announcers (view e) t (fresh k) more) (announcers (view e) t (fresh k) actions) k.desks (λ i b. before t l i)) announced

      -- a noted clock stays the first
      still_first : (T : ℕ) → begun k.faults desks ≡ true → FirstBy k e actions T → FirstBy k e more T
      still_first T b first = (
        announced_more k e actions (m ∷ []) T first.0,
        λ t announced. ⊎_elim (λ l. le_trans (first.1 s.clock (begun_announced b)) l) (λ l. first.1 t (was_before t l announced)) (le_or_lt s.clock t),
      )

      -- the action is no announcement of entry e, or none that is carried out
      pub noting_other : ((i : ℕ) → announces e s m i ≡ false) → Noting more desks noted
      noting_other none =
          record {
            below = g.below;
            who = λ T l i. sym (from_now T (onward T l) i ∙ ap (λ (b : Bool). member desks i || b) (none i) ∙ or-false (member desks i));
            first = λ b. let (T, is, first) = g.first b in (T, is, still_first T b first);
          }

      -- desk d carries out an announcement of entry e
      pub noting_announced : (d : ℕ) → d < k.desks → ((i : ℕ) → announces e s m i ≡ nat_eq d i) → Noting more (insert desks d) (clock_noted k.faults desks (insert desks d) s.clock noted)
      noting_announced d below does =
          record {
            below = insert_lt k.desks desks d g.below below;
            who = λ T l i. sym (told T (onward T l) i);
            first = λ b. ⊎_elim
                (λ was. let (T, is, first) = g.first was in (T, noted_again k.faults desks (insert desks d) s.clock noted was ∙ is, still_first T was first))
                (λ new. (s.clock, noted_first k.faults desks (insert desks d) s.clock noted new b, first_now b new))
                (decided (begun k.faults desks));
          }
        where
          told : (T : ℕ) → s.clock ≤ T → (i : ℕ) → announcers (view e) T (fresh k) more i ≡ member (insert desks d) i
          told T l i = from_now T l i ∙ ap (λ (b : Bool). member desks i || b) (does i) ∙ sym (member_insert desks d i)

          -- it is the f + 1st
          first_now : begun k.faults (insert desks d) ≡ true → begun k.faults desks ≡ false → FirstBy k e more s.clock
          first_now b new = (
            omega (
              arith,
              begun_enough (insert desks d) b,
              as_many (announcers (view e) s.clock (fresh k) more) (insert desks d) (insert_lt k.desks desks d g.below below) (told s.clock (le_refl s.clock)),
            ),
            λ t announced. ⊎_elim (λ l. l) (λ l. clash (begun k.faults desks) (announced_begun t (was_before t l announced)) new) (le_or_lt s.clock t),
          )
