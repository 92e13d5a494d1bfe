-- Laws of what is noted of an entry: the tests of its shape, and what every action and every print keeps of it. Assumes nothing.
use Rattle.std.proofs.Common.{◌≡◌, ◌∙◌, ℕ, ◌^◌, ◌≤◌, ◌<◌, Bool, true, false, not, ◌||◌, nat_lt, List, [], ◌∷◌, get_or, length, subst, refl, arith, if◌then◌else◌}
use Rattle.std.proofs.lemmas.List.{get_or_default}
use mathlib.Core.Logic.{⊎_elim}
use Rattle.sets.specs.Sets.{member, all_below}
use Rattle.sets.proofs.Tests.{clash, decided, AllTrue, apart, joined}
use Rattle.sets.proofs.MemberLaws.{all_below_lt, lt_all_below}
use Rattle.rules.specs.declared.Settings.{Settings}
use Rattle.rules.specs.declared.Desk.{Desk}
use Rattle.rules.specs.Rules.{every_below, no_desk, is_sent}
use Rattle.rules.proofs.DeskLaws.{below_each, each_below}
use Rattle.floors.specs.declared.Floor.{Floor}
use Rattle.holds.specs.declared.Sticker.{Sticker}
use Rattle.holds.specs.Stickers.{begun, wait_over, sent_by, all_sent, noted_fits, sticker_in_shape}

-- ---- one test of many

pub one_below : (test : ℕ → Bool) (k i : ℕ) → i < k → test i ≡ false → every_below test k ≡ false
one_below test k i below h = ⊎_elim (λ t. clash (test i) (below_each test k t i below) h) (λ f. f) (decided (every_below test k))

-- a test that is asked only where another holds
only_if : (a b : Bool) → (not a || b) ≡ true → a ≡ true → b ≡ true
only_if true b h t = h
only_if false b h t = clash false t refl

if_only : (a b : Bool) → (a ≡ true → b ≡ true) → (not a || b) ≡ true
if_only true b h = h refl
if_only false b h = refl

-- ---- sent marks

module _ (desks : List Desk) (announced e : ℕ) where
  pub marked_all : (i : ℕ) → 16 ≤ i → i ≤ 16 → every_below (sent_by desks announced e) i ≡ true → all_sent desks announced e ≡ true
  unfolding all_sent
  marked_all i far near h = let end : i ≡ 16 = omega arith in subst (λ (k : ℕ). every_below (sent_by desks announced e) k ≡ true) end h

  -- desk i, which is d, has announced the entry without its mark
  pub marked_one : length desks ≡ 16 → (i : ℕ) → i < 16 → (d : Desk) → d ≡ get_or desks i d → member announced i ≡ true → is_sent d e ≡ false → all_sent desks announced e ≡ false
  unfolding all_sent
  marked_one long i below d there has lacks =
      let here : d ≡ get_or desks i no_desk = there ∙ get_or_default desks i d no_desk (omega arith) in
      one_below (sent_by desks announced e) 16 i below (rw (has, ← here, lacks) refl)

  -- who has announced has the sent mark
  abbrev pub Marked : Type 0
  Marked = (i : ℕ) → i < 16 → member announced i ≡ true → is_sent (get_or desks i no_desk) e ≡ true

  pub sent_marked : all_sent desks announced e ≡ true → Marked
  unfolding all_sent
  sent_marked h i below has = only_if (member announced i) (is_sent (get_or desks i no_desk) e) (below_each (sent_by desks announced e) 16 h i below) has

  pub marked_sent : Marked → all_sent desks announced e ≡ true
  unfolding all_sent
  marked_sent h = each_below (sent_by desks announced e) 16 (λ i below. if_only (member announced i) (is_sent (get_or desks i no_desk) e) (h i below))

-- ---- the tests of a sticker

-- how many desks may announce entry e
abbrev pub most : Settings → ℕ → ℕ
most k e = (if nat_lt e k.entries then k.desks else 0)

pub record StickerShape (fl : Floor) (e : ℕ) (st : Sticker) : Type 0 where
  pub inside : st.announced < 2 ^ most fl.settings e
  pub marked : Marked fl.desks st.announced e
  pub noted : noted_fits (begun fl.settings.faults st.announced) fl.clock st.noted ≡ true
  pub waited : st.printed ≡ true → wait_over fl.settings fl.clock st ≡ true

module _ (fl : Floor) (e : ℕ) (st : Sticker) where
  abbrev tests : List Bool
  tests =
      all_below (most fl.settings e) st.announced
      ∷ all_sent fl.desks st.announced e
      ∷ noted_fits (begun fl.settings.faults st.announced) fl.clock st.noted
      ∷ (not st.printed || wait_over fl.settings fl.clock st)
      ∷ []

  pub shape_sticker : sticker_in_shape fl e st ≡ true → StickerShape fl e st
  shape_sticker h =
      let t : AllTrue tests = apart tests h in
      record {
        inside = all_below_lt (most fl.settings e) st.announced t.0;
        marked = sent_marked fl.desks st.announced e t.1.0;
        noted = t.1.1.0;
        waited = only_if st.printed (wait_over fl.settings fl.clock st) t.1.1.1.0;
      }

  pub sticker_shape : StickerShape fl e st → sticker_in_shape fl e st ≡ true
  sticker_shape ok =
      joined tests (
        lt_all_below (most fl.settings e) st.announced ok.inside,
        (
          marked_sent fl.desks st.announced e ok.marked,
          (ok.noted, (if_only st.printed (wait_over fl.settings fl.clock st) ok.waited, tt)),
        ),
      )
