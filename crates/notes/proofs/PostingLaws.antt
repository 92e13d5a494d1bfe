-- Laws of posting: what is posted next waits already where it waited before, and how many notes wait then. Assumes nothing.
use Rattle.std.proofs.Common.{◌≡◌, ◌≢◌, ℕ, zero, suc, ◌+◌, ◌*◌, ◌/◌, ◌%◌, ◌<◌, ◌≤◌, Bool, true, false, ◌||◌, if◌then◌else◌, nat_eq, inl, inr, List, [], ◌∷◌, ◌++◌, length, take, drop, set, get_or, replicate, refl, sym, ◌∙◌, add-one, arith, length-append, length-take-le, subst}
use native.Mathlib.Nat.{le_refl, le_trans, mul-le-mul_right}
use Rattle.std.proofs.lemmas.Bool.{cases_eq, cases_lt}
use Rattle.std.proofs.lemmas.List.{get_or_default, get_or-replicate}
use Rattle.std.proofs.lemmas.List.Sums.{sum_by-append, count_by-le-length}
use Rattle.std.proofs.lemmas.Grind.{elements, same_number_lists}
use Rattle.sets.specs.Sets.{member, size, insert_below}
use Rattle.sets.proofs.CountLaws.{count_longer}
use Rattle.sets.proofs.MemberLaws.{member_zero, member_insert, insert_below_low, insert_below_high}
use Rattle.sets.proofs.Tests.{decided}
use mathlib.Core.Logic.{⊎_elim}
use Rattle.rules.specs.Rules.{note_of, waits, post, post_all, broadcast, broadcasts}
use Rattle.rules.proofs.PostLaws.{post_new, length_post, post_all_append, waits_post_all, post_all_grows}
use Rattle.rules.proofs.BroadcastLaws.{broadcast_more, broadcast_next, length_broadcast, length_broadcasts, broadcasts_more, broadcasts_only, broadcasts_never, DueNote, post_broadcast_longer, post_broadcasts_longer}
use Rattle.notes.specs.Area.{laid}
use Rattle.notes.specs.Posting.{new_count}
use Rattle.notes.proofs.AreaLaws.{laid_one}

-- ---- one note

-- a note that does not wait has the next place
pub place_new : (w : ℕ) (area : List ℕ) (x : ℕ) → w ≤ length area → waits (take w area) x ≡ false → length (post (take w area) x) ≤ length area → w < length area
place_new w area x h new room =
    let long : length (post (take w area) x) ≡ w + 1 = rw (length_post, new, length-take-le w area h) refl in
    omega (arith, long)

pub laid_new : (w : ℕ) (area : List ℕ) (x : ℕ) → w ≤ length area → waits (take w area) x ≡ false → length (post (take w area) x) ≤ length area
    → set area w x ≡ laid w area (post (take w area) x)
laid_new w area x h new room = rw (post_new (take w area) x new) (laid_one w area x (place_new w area x h new room))

-- ---- how many of a list do not wait

pub new_none : (ns : List ℕ) → new_count ns [] ≡ 0
unfolding new_count
new_none ns = refl

pub new_append : (ns xs ys : List ℕ) → new_count ns (xs ++ ys) ≡ new_count ns xs + new_count ns ys
unfolding new_count
new_append ns xs ys = sum_by-append _ xs ys

pub new_one : (ns : List ℕ) (x : ℕ) → new_count ns (x ∷ []) ≡ (if waits ns x then 0 else 1)
unfolding new_count
new_one ns x = grind arith

pub new_le_length : (ns xs : List ℕ) → new_count ns xs ≤ length xs
unfolding new_count
new_le_length ns xs = count_by-le-length _ xs

pub new_start : (ns : List ℕ) (t i e : ℕ) → new_count ns (broadcast t i e 0) ≡ 0
unfolding new_count
new_start ns t i e = refl

module _ (ns : List ℕ) (t i e j : ℕ) where
  pub new_more : new_count ns (broadcast t i e (j + 1)) ≡ new_count ns (broadcast t i e j) + (if waits ns (note_of t i j e) then 0 else 1)
  new_more = rw (broadcast_more t i e j, new_append, new_one) refl

  pub new_le : new_count ns (broadcast t i e j) ≤ j
  new_le = omega (arith, new_le_length ns (broadcast t i e j), length_broadcast t i e j)

  -- ---- one note more of a broadcast

  pub posted_more : post_all ns (broadcast t i e (j + 1)) ≡ post (post_all ns (broadcast t i e j)) (note_of t i j e)
  posted_more = rw (broadcast_more t i e j, post_all_append) refl

  pub posted_waits : waits (post_all ns (broadcast t i e j)) (note_of t i j e) ≡ waits ns (note_of t i j e)
  posted_waits = rw (waits_post_all, broadcast_next t i e j) (grind arith)

pub posted_le : (ns : List ℕ) (t i e j n : ℕ) → j < n → length (post_all ns (broadcast t i e (j + 1))) ≤ length (post_all ns (broadcast t i e n))
posted_le ns t i e j n h = post_broadcast_longer t i e ns (j + 1) n (omega arith)

-- a note is written behind those that stand in front
set_behind : (ns xs : List ℕ) (k x : ℕ) → k ≡ length ns → k < length xs → set (ns ++ drop k xs) k x ≡ (ns ++ x ∷ []) ++ drop (k + 1) xs
set_behind ns xs k x at within = same_number_lists _ _ (grind (arith, elements)) (λ i h. grind (arith, elements))

-- what stands before the place written stays
pub front_kept : (area left : List ℕ) (w k x : ℕ) → w ≤ k → take w left ≡ take w area → take w (set left k x) ≡ take w area
front_kept area left w k x h same =
    let kept : take w (set left k x) ≡ take w left = same_number_lists _ _ (grind (arith, elements)) (λ i l. grind (arith, elements)) in
    rw kept same

module _ (ns : List ℕ) (t i e j : ℕ) where
  pub posted_there : waits ns (note_of t i j e) ≡ true → post_all ns (broadcast t i e (j + 1)) ≡ post_all ns (broadcast t i e j)
  posted_there h = rw (posted_more, posted_waits, h) refl

  pub posted_new : waits ns (note_of t i j e) ≡ false → post_all ns (broadcast t i e (j + 1)) ≡ post_all ns (broadcast t i e j) ++ note_of t i j e ∷ []
  posted_new h = rw (posted_more, posted_waits, h) refl

  pub length_new : waits ns (note_of t i j e) ≡ false → length (post_all ns (broadcast t i e (j + 1))) ≡ length (post_all ns (broadcast t i e j)) + 1
  length_new h = rw (posted_new h, length-append) refl

  pub written_new : (area left : List ℕ) (count : ℕ) → waits ns (note_of t i j e) ≡ false → count ≡ length (post_all ns (broadcast t i e j))
      → left ≡ post_all ns (broadcast t i e j) ++ drop count area → count < length area
      → set left count (note_of t i j e) ≡ post_all ns (broadcast t i e (j + 1)) ++ drop (count + 1) area
  written_new area left count h counted is within = rw (is, posted_new h) (set_behind (post_all ns (broadcast t i e j)) area count (note_of t i j e) counted within)

-- the notes w, and of a broadcast those to the desks below j that did not wait: m in all
abbrev pub Added : ℕ → List ℕ → ℕ → ℕ → ℕ → ℕ → ℕ → List ℕ → Type 0
Added w area t i e j m left =
    record {
      count : m ≡ length (post_all (take w area) (broadcast t i e j));
      reach : w ≤ m;
      front : take w left ≡ take w area;
      area : left ≡ post_all (take w area) (broadcast t i e j) ++ drop m area;
    }

-- one desk more
module _ (w : ℕ) (area : List ℕ) (t i e j m : ℕ) (left : List ℕ) (a : Added w area t i e j m left) where
  pub added_there : waits (take w area) (note_of t i j e) ≡ true → Added w area t i e (j + 1) m left
  added_there h =
      let same = posted_there (take w area) t i e j h in
      record { count = rw same a.count; reach = a.reach; front = a.front; area = rw same a.area }

  module _ (n : ℕ) (below : j < n) (room : length (post_all (take w area) (broadcast t i e n)) ≤ length area) (h : waits (take w area) (note_of t i j e) ≡ false) where
    pub added_within : m < length area
    added_within = omega (arith, a.count, length_new (take w area) t i e j h, posted_le (take w area) t i e j n below)

    pub added_new : Added w area t i e (j + 1) (m + 1) (set left m (note_of t i j e))
    added_new =
        record {
          count = omega (arith, a.count, length_new (take w area) t i e j h);
          reach = omega (arith, a.reach);
          front = front_kept area left w m (note_of t i j e) a.reach a.front;
          area = written_new (take w area) t i e j area left m h a.count a.area added_within;
        }

-- so many wait after a broadcast
pub length_posted : (ns : List ℕ) (t i e n : ℕ) → length (post_all ns (broadcast t i e n)) ≡ length ns + new_count ns (broadcast t i e n)
length_posted ns t i e zero = omega (arith, new_start ns t i e)
length_posted ns t i e (suc n) =
    let before = length_posted ns t i e n in
    let next : length (post_all ns (broadcast t i e (n + 1))) ≡ length ns + new_count ns (broadcast t i e (n + 1)) =
    rw (posted_more, length_post, posted_waits, before, new_more) (omega arith) in
    subst (λ m. length (post_all ns (broadcast t i e m)) ≡ length ns + new_count ns (broadcast t i e m)) (add-one n) next

pub counted : (w : ℕ) (area : List ℕ) (t i e n : ℕ) → w ≤ length area
    → length (post_all (take w area) (broadcast t i e n)) ≡ w + new_count (take w area) (broadcast t i e n)
counted w area t i e n h = length_posted (take w area) t i e n ∙ rw (length-take-le w area h) refl

-- no fewer wait than before
pub posted_grows : (w : ℕ) (area xs : List ℕ) → w ≤ length area → w ≤ length (post_all (take w area) xs)
posted_grows w area xs h = omega (arith, length-take-le w area h, (post_all_grows (take w area) xs).0)

-- ---- the desks to which an equal note waits

pub reach_hit : (s x t i e d : ℕ) → x ≡ note_of t i d e → (j : ℕ) → j < 16 → member (insert_below 16 s d) j ≡ (member s j || nat_eq x (note_of t i j e))
reach_hit s x t i e d is j low =
    elim (cases_lt d 16) [
      | inl below ↦
          (let same : nat_eq d j ≡ nat_eq x (note_of t i j e) = rw is (grind arith) in
          rw (insert_below_low 16 s d below, member_insert, same) refl)
      | inr above ↦
          (let other : nat_eq x (note_of t i j e) ≡ false = rw is (grind arith) in
          rw (insert_below_high 16 s d above, other) (grind arith))
    ]

pub reach_more : (sets : List ℕ) (x t i f d new other : ℕ) → length sets ≡ 64 → f < 64 → x ≡ note_of t i d f → d < 256 → new ≡ insert_below 16 (get_or sets f other) d
    → (e j : ℕ) → e < 64 → j < 16 → member (get_or (set sets f new) e 0) j ≡ (member (get_or sets e 0) j || nat_eq x (note_of t i j e))
reach_more sets x t i f d new other long few is byte is_new e j e_few j_few =
    elim (cases_eq e f) [
      | inl same ↦
          (let here : get_or (set sets f new) e 0 ≡ new = grind (arith, elements) in
          let was : get_or sets f other ≡ get_or sets e 0 = rw same (get_or_default sets f other 0 (omega arith)) in
          let is_e : x ≡ note_of t i d e = rw same is in
          rw (here, is_new, was) (reach_hit (get_or sets e 0) x t i e d is_e j j_few))
      | inr apart ↦
          (let there : get_or (set sets f new) e 0 ≡ get_or sets e 0 = grind (arith, elements) in
          let no : nat_eq x (note_of t i j e) ≡ false = rw is (let differ : note_of t i d f ≢ note_of t i j e = omega arith in grind arith) in
          rw (there, no) (grind arith))
    ]

-- of sets of 16 desks each
pub many_more : (sets : List ℕ) (x t i e d k r new other : ℕ) → length sets ≡ 16 → k ≡ d / 16 → r ≡ d % 16 → x ≡ note_of t i d e → d < 256 → new ≡ insert_below 16 (get_or sets k other) r
    → (j : ℕ) → j < 256 → member (get_or (set sets k new) (j / 16) 0) (j % 16) ≡ (member (get_or sets (j / 16) 0) (j % 16) || nat_eq x (note_of t i j e))
many_more sets x t i e d k r new other long at rest is byte is_new j j_few =
    elim (cases_eq (j / 16) k) [
      | inl same ↦
          (let here : get_or (set sets k new) (j / 16) 0 ≡ new = grind (arith, elements) in
          let was : get_or sets k other ≡ get_or sets (j / 16) 0 = rw same (get_or_default sets k other 0 (omega arith)) in
          let low : r < 16 = omega arith in
          let alike : nat_eq r (j % 16) ≡ nat_eq x (note_of t i j e) = rw is (grind arith) in
          rw (here, is_new, was, insert_below_low 16 (get_or sets (j / 16) 0) r low, member_insert, alike) refl)
      | inr apart ↦
          (let there : get_or (set sets k new) (j / 16) 0 ≡ get_or sets (j / 16) 0 = grind (arith, elements) in
          let no : nat_eq x (note_of t i j e) ≡ false = rw is (let differ : note_of t i d e ≢ note_of t i j e = omega arith in grind arith) in
          rw (there, no) (grind arith))
    ]

pub none_of_many : (s j : ℕ) → s ≡ 0 → j < 256 → member (get_or (replicate 16 s) (j / 16) 0) (j % 16) ≡ false
none_of_many s j none few = let here : ◌≡◌ {A = ℕ} (get_or (replicate 16 s) (j / 16) 0) s = get_or-replicate 16 (j / 16) s 0 (omega arith) in rw (here, none) (member_zero (j % 16))

pub none_reached : (s e j : ℕ) → s ≡ 0 → e < 64 → member (get_or (replicate 64 s) e 0) j ≡ false
none_reached s e j none few = let here : ◌≡◌ {A = ℕ} (get_or (replicate 64 s) e 0) s = get_or-replicate 64 e s 0 few in rw (here, none) (member_zero j)

-- ---- broadcasts of several entries

module _ (ns : List ℕ) (test : ℕ → Bool) (t i n e : ℕ) where
  pub all_new_more : new_count ns (broadcasts test t i n (e + 1)) ≡ new_count ns (broadcasts test t i n e) + (if test e then new_count ns (broadcast t i e n) else 0)
  all_new_more = rw (broadcasts_more test t i n e, new_append) (by (test e))
    where
      by : (b : Bool) → new_count ns (broadcasts test t i n e) + new_count ns (if b then broadcast t i e n else []) ≡ new_count ns (broadcasts test t i n e) + (if b then new_count ns (broadcast t i e n) else 0)
      by true = refl
      by false = rw (new_none ns) refl

  pub all_posted_more : post_all ns (broadcasts test t i n (e + 1)) ≡ (if test e then post_all (post_all ns (broadcasts test t i n e)) (broadcast t i e n) else post_all ns (broadcasts test t i n e))
  all_posted_more = rw (broadcasts_more test t i n e, post_all_append) (by (test e))
    where
      by : (b : Bool) → post_all (post_all ns (broadcasts test t i n e)) (if b then broadcast t i e n else []) ≡ (if b then post_all (post_all ns (broadcasts test t i n e)) (broadcast t i e n) else post_all ns (broadcasts test t i n e))
      by true = refl
      by false = refl

  pub all_posted_yes : test e ≡ true → post_all ns (broadcasts test t i n (e + 1)) ≡ post_all (post_all ns (broadcasts test t i n e)) (broadcast t i e n)
  all_posted_yes h = rw (all_posted_more, h) refl

  pub all_posted_no : test e ≡ false → post_all ns (broadcasts test t i n (e + 1)) ≡ post_all ns (broadcasts test t i n e)
  all_posted_no h = rw (all_posted_more, h) refl

  pub all_posted_le : (u : ℕ) → e < u → length (post_all ns (broadcasts test t i n (e + 1))) ≤ length (post_all ns (broadcasts test t i n u))
  all_posted_le u h = post_broadcasts_longer test t i n ns (e + 1) u (omega arith)

  -- a later entry waits where it waited before
  pub all_posted_waits : (j f : ℕ) → e ≤ f → f < 256 → waits (post_all ns (broadcasts test t i n e)) (note_of t i j f) ≡ waits ns (note_of t i j f)
  all_posted_waits j f h byte = rw (waits_post_all, none) (grind arith)
    where
      not_yet : DueNote test t i n e (note_of t i j f) → ⊥
      not_yet o = omega (arith, o.entry_below, o.is_note)

      none : waits (broadcasts test t i n e) (note_of t i j f) ≡ false
      none = ⊎_elim (λ w. absurd (not_yet (broadcasts_only test t i n e (note_of t i j f) w))) (λ f. f) (decided (waits (broadcasts test t i n e) (note_of t i j f)))

-- notes of earlier entries do not count
new_after : (ns : List ℕ) (test : ℕ → Bool) (t i n e : ℕ) → e < 256 → (j : ℕ)
    → new_count (post_all ns (broadcasts test t i n e)) (broadcast t i e j) ≡ new_count ns (broadcast t i e j)
new_after ns test t i n e byte zero = new_start _ t i e ∙ sym (new_start ns t i e)
new_after ns test t i n e byte (suc j) =
    let before = new_after ns test t i n e byte j in
    let next : new_count (post_all ns (broadcasts test t i n e)) (broadcast t i e (j + 1)) ≡ new_count ns (broadcast t i e (j + 1)) =
    rw (new_more, before, all_posted_waits ns test t i n e j e (le_refl e) byte, new_more) refl in
    subst (λ m. new_count (post_all ns (broadcasts test t i n e)) (broadcast t i e m) ≡ new_count ns (broadcast t i e m)) (add-one j) next

-- so many wait after the broadcasts
pub length_all_posted : (ns : List ℕ) (test : ℕ → Bool) (t i n u : ℕ) → u ≤ 256
    → length (post_all ns (broadcasts test t i n u)) ≡ length ns + new_count ns (broadcasts test t i n u)
length_all_posted ns test t i n zero h = omega (arith, new_none ns)
length_all_posted ns test t i n (suc e) h =
    let before = length_all_posted ns test t i n e (omega arith) in
    let posted = length_posted (post_all ns (broadcasts test t i n e)) t i e n in
    let same = new_after ns test t i n e (omega arith) n in
    let next : length (post_all ns (broadcasts test t i n (e + 1))) ≡ length ns + new_count ns (broadcasts test t i n (e + 1)) =
    rw (all_posted_more, all_new_more) (by (test e) before posted same) in
    subst (λ m. length (post_all ns (broadcasts test t i n m)) ≡ length ns + new_count ns (broadcasts test t i n m)) (add-one e) next
  where
    by : (b : Bool) → length (post_all ns (broadcasts test t i n e)) ≡ length ns + new_count ns (broadcasts test t i n e)
        → length (post_all (post_all ns (broadcasts test t i n e)) (broadcast t i e n)) ≡ length (post_all ns (broadcasts test t i n e)) + new_count (post_all ns (broadcasts test t i n e)) (broadcast t i e n)
        → new_count (post_all ns (broadcasts test t i n e)) (broadcast t i e n) ≡ new_count ns (broadcast t i e n)
        → length (if b then post_all (post_all ns (broadcasts test t i n e)) (broadcast t i e n) else post_all ns (broadcasts test t i n e)) ≡ length ns + (new_count ns (broadcasts test t i n e) + (if b then new_count ns (broadcast t i e n) else 0))
    by true before posted same = omega (arith, before, posted, same)
    by false before posted same = omega (arith, before)

pub all_counted : (w : ℕ) (area : List ℕ) (test : ℕ → Bool) (t i n u : ℕ) → w ≤ length area → u ≤ 256
    → length (post_all (take w area) (broadcasts test t i n u)) ≡ w + new_count (take w area) (broadcasts test t i n u)
all_counted w area test t i n u h l = length_all_posted (take w area) test t i n u l ∙ rw (length-take-le w area h) refl

-- each of the entries has at most n
pub all_new_le : (ns : List ℕ) (test : ℕ → Bool) (t i n u : ℕ) → n < 256 → new_count ns (broadcasts test t i n u) ≤ 255 * u
all_new_le ns test t i n zero h = omega (arith, new_none ns)
all_new_le ns test t i n (suc e) h =
    let before = all_new_le ns test t i n e h in
    let next : new_count ns (broadcasts test t i n (e + 1)) ≤ 255 * (e + 1) = rw all_new_more (by (test e) before (new_le ns t i e n)) in
    subst (λ m. new_count ns (broadcasts test t i n m) ≤ 255 * m) (add-one e) next
  where
    by : (b : Bool) → new_count ns (broadcasts test t i n e) ≤ 255 * e → new_count ns (broadcast t i e n) ≤ n
        → new_count ns (broadcasts test t i n e) + (if b then new_count ns (broadcast t i e n) else 0) ≤ 255 * (e + 1)
    by true before most = omega (arith, before, most)
    by false before most = omega (arith, before)

pub none_due : (entries : ℕ) (ns : List ℕ) (t i n u : ℕ) → entries ≡ 0 → post_all ns (broadcasts (member entries) t i n u) ≡ ns
none_due entries ns t i n u none =
    rw (broadcasts_never (member entries) t i n u (λ e h. rw none (member_zero e))) refl

-- nor has each entry of a set more than n
pub all_new_few : (ns : List ℕ) (entries t i n u : ℕ) → u ≤ 64 → new_count ns (broadcasts (member entries) t i n u) ≤ size 64 entries * n
all_new_few ns entries t i n u h =
    le_trans (rw length_broadcasts at (new_le_length ns (broadcasts (member entries) t i n u))) (mul-le-mul_right n (count_longer (member entries) u 64 h))
