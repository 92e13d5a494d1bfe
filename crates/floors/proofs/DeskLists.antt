-- Desks by their places, as the rules look at them, and as a list that the code looks through. Assumes nothing.
use Rattle.std.proofs.Common.{◌≡◌, refl, sym, ap, ◌∙◌, ℕ, zero, suc, ◌+◌, ◌-◌, ◌^◌, ◌<◌, ◌≤◌, IsTrue, Bool, true, ◌&&◌, List, length, get_or, take, drop, add-one, arith}
use Rattle.std.specs.List.{list_all, count_by}
use Rattle.std.proofs.lemmas.List.Folds.{list_all_more, list_all_at}
use Rattle.std.proofs.lemmas.List.Sums.{count_by_more_yes, count_by_more_no}
use mathlib.Core.Bool.{false≢true}
use mathlib.Core.Logic.{⊎_elim}
use native.Mathlib.Nat.{le_refl}
use mathlib.Core.Path.{ap₂}
use lib.Dec.{ltb}
use lib.ListN.{length-drop}
use lib.Seq.{get_or-drop, take_all}
use borrow.Author.Tests.{lt-ltb, le-ltb}
use Rattle.sets.specs.Counting.{count}
use Rattle.sets.proofs.Tests.{decided, cond_true, cond_false}
use Rattle.rules.specs.declared.Settings.{Settings}
use Rattle.rules.specs.declared.Desk.{Desk}
use Rattle.rules.specs.Rules.{State, later, map_first, no_desk, desk_at, every_below, desk_in_shape, zero_desk, place_in_shape}
use Rattle.rules.proofs.DeskLaws.{below_more, below_same, first_past}
use Rattle.floors.specs.Floors.{may_go_on}

module _ {A : Type 0} (test : A → Bool) (xs : List A) (default : A) where
  pub every_place : (k : ℕ) → k ≤ length xs → every_below (λ i. test (get_or xs i default)) k ≡ list_all test (take k xs)
  every_place zero l = refl
  every_place (suc k) l =
      let step : list_all test (take (suc k) xs) ≡ (list_all test (take k xs) && test (get_or xs k default)) = rw add-one at (list_all_more test xs k default (omega arith)) in
      rw (step, every_place k (omega arith)) refl

  pub list_all_each : (i : ℕ) → i < length xs → list_all test xs ≡ true → test (get_or xs i default) ≡ true
  list_all_each i l all = ⊎_elim (λ yes. yes) (λ no. absurd (false≢true (sym (list_all_at test xs i default l no) ∙ all))) (decided (test (get_or xs i default)))

  pub count_places : (k : ℕ) → k ≤ length xs → count (λ i. test (get_or xs i default)) k ≡ count_by test (take k xs)
  unfolding count
  count_places zero l = refl
  count_places (suc k) l =
      ⊎_elim
      (λ yes.
      let step : count_by test (take (suc k) xs) ≡ count_by test (take k xs) + 1 = rw add-one at (count_by_more_yes test xs k default (omega arith) yes) in
      rw (yes, step) (omega (arith, count_places k (omega arith))))
      (λ no.
      let step : count_by test (take (suc k) xs) ≡ count_by test (take k xs) = rw add-one at (count_by_more_no test xs k default (omega arith) no) in
      rw (no, step) (omega (arith, count_places k (omega arith))))
      (decided (test (get_or xs k default)))

-- the desks in use keep the limits, and those from n on are all zero
module _ (s : State) where
  abbrev n : ℕ
  n = s.settings.desks

  abbrev others : List Desk
  others = drop n s.desks

  inside : (i : ℕ) → i < n → place_in_shape s i ≡ desk_in_shape s.settings (get_or s.desks i no_desk)
  inside i l = cond_true (ltb i n) (desk_in_shape s.settings (desk_at s i)) (zero_desk (desk_at s i)) (lt-ltb i n l)

  past : (i : ℕ) → i < 16 - n → place_in_shape s (i + n) ≡ zero_desk (get_or others i no_desk)
  past i l =
      cond_false (ltb (i + n) n) (desk_in_shape s.settings (desk_at s (i + n))) (zero_desk (desk_at s (i + n))) (le-ltb (i + n) n (omega arith))
      ∙ ap zero_desk (ap (λ (j : ℕ). get_or s.desks j no_desk) (let q : i + n ≡ n + i = omega arith in q) ∙ sym (get_or-drop n s.desks i no_desk))

  pub places_are : n ≤ 16 → length s.desks ≡ 16
      → every_below (place_in_shape s) 16 ≡ (list_all (desk_in_shape s.settings) (take n s.desks) && list_all zero_desk others)
  places_are few long =
      let left : length others ≡ length s.desks - n = length-drop n s.desks in
      let whole : 16 ≡ (16 - n) + n = omega arith in
      ap (every_below (place_in_shape s)) whole ∙ below_more (place_in_shape s) n (16 - n)
      ∙ ap₂ (λ (a b : Bool). a && b)
      (below_same (place_in_shape s) (λ i. desk_in_shape s.settings (get_or s.desks i no_desk)) n inside ∙ every_place (desk_in_shape s.settings) s.desks no_desk n (omega arith))
      (below_same (λ i. place_in_shape s (i + n)) (λ i. zero_desk (get_or others i no_desk)) (16 - n) past
      ∙ every_place zero_desk others no_desk (16 - n) (omega arith) ∙ ap (list_all zero_desk) (take_all (16 - n) others (omega arith)))

-- ---- a delay

module _ (k : Settings) (t : ℕ) where
  -- timers that hold fit their words
  timers_fit : (d : Desk) → k.pass_on ≤ 65535 → k.accept ≤ 65535 → may_go_on k t d ≡ true → (d.pass_on + t < 2 ^ 32) × (d.accept + t < 2 ^ 32)
  timers_fit d pass_on accept holds = (grind arith, grind arith)

  -- so do those of the next desk, where those of the first i have gone on
  pub next_fits : (i : ℕ) (xs ys : List Desk) (d : Desk) → k.pass_on ≤ 65535 → k.accept ≤ 65535 → i < length xs → ys ≡ map_first i (later t) xs → IsTrue (list_all (may_go_on k t) xs)
      → ((get_or ys i d).pass_on + t < 2 ^ 32) × ((get_or ys i d).accept + t < 2 ^ 32)
  next_fits i xs ys d pass_on accept within is all =
      let same : get_or ys i d ≡ get_or xs i d = rw is (first_past d i (later t) xs i (le_refl i)) in
      rw same (timers_fit (get_or xs i d) pass_on accept (list_all_each (may_go_on k t) xs d i within all))
