-- The columns of a report, desk by desk. Assumes nothing.
use Rattle.std.proofs.Common.{◌≡◌, ℕ, suc, ◌+◌, ◌<◌, ◌≤◌, List, [], ◌∷◌, ◌++◌, length, take, drop, set, get_or, map, replicate, false, append_assoc, append-nil, drop-cons, drop_of_length-le, add-one, refl, sym, ap, ◌∙◌, arith}
use Rattle.std.proofs.lemmas.List.{length-map, length-take, get_or-map, take_all}
use Rattle.std.proofs.Math.Seq.{set-append_seam, take-suc}
use Rattle.rules.specs.declared.Desk.{Desk}
use Rattle.floors.specs.declared.Floor.{Floor}
use Rattle.runs.specs.declared.Ran.{Ran}
use Rattle.speed.specs.declared.Report.{Report}
use Rattle.speed.specs.Reports.{reported}

-- ---- a list copied over another, place by place

seam : {B : Type 0} (xs : List B) (y : B) (ys : List B) (x : B) (i : ℕ) → length xs ≡ i → set (xs ++ y ∷ ys) i x ≡ (xs ++ x ∷ []) ++ ys
seam xs y ys x i e = rw (← e, append_assoc) (set-append_seam xs y ys x)

pub copied_more : {B : Type 0} (xs zs : List B) (i : ℕ) (x d : B) → i < length xs → i < length zs → x ≡ get_or xs i d
    → set (take i xs ++ drop i zs) i x ≡ take (i + 1) xs ++ drop (i + 1) zs
copied_more {B = B} xs zs i x d h h' is =
    let taken : length (take i xs) ≡ i = simp length-take (omega arith) in
    let next : take (suc i) xs ≡ take i xs ++ x ∷ [] = take-suc xs i d h ∙ ap (λ (y : B). take i xs ++ y ∷ []) (sym is) in
    rw (drop-cons zs i x, add-one i, next) (seam (take i xs) (get_or zs i x) (drop (suc i) zs) x i taken)

pub copied_all : {B : Type 0} (xs zs now : List B) (i n : ℕ) → length xs ≡ n → length zs ≡ n → i ≤ length xs → length xs ≤ i → now ≡ take i xs ++ drop i zs → now ≡ xs
copied_all xs zs now i n long long' h h' is =
    let past : length zs ≤ i = omega (arith, long, long', h') in
    is ∙ rw (take_all i xs h', drop_of_length-le zs past, append-nil) refl

-- ---- the columns

-- the first i desks have their place in a column, and the others are 0 there
abbrev pub filled : {B : Type 0} → (Desk → B) → B → List Desk → ℕ → List B
filled part zero ds i = take i (map part ds) ++ drop i (replicate 16 zero)

abbrev pub so_far : Report → List Desk → ℕ → Report
so_far r ds i =
    record r {
      faulty = filled (λ d. d.faulty) false ds i;
      pass = filled (λ d. d.pass_on) 0 ds i;
      accept = filled (λ d. d.accept) 0 ds i;
      listed = filled (λ d. d.listed) 0 ds i;
      sent = filled (λ d. d.sent) 0 ds i;
      received = filled (λ d. d.received) (replicate 64 0) ds i;
    }

filled_more : {B : Type 0} (part : Desk → B) (zero : B) (ds : List Desk) (i : ℕ) (d : Desk) → length ds ≡ 16 → i < 16 → d ≡ get_or ds i d
    → set (filled part zero ds i) i (part d) ≡ filled part zero ds (i + 1)
filled_more part zero ds i d long h is =
    copied_more (map part ds) (replicate 16 zero) i (part d) (part d) (simp length-map (omega arith)) h (ap part is ∙ sym (get_or-map part ds i d (part d) (omega arith)))

filled_all : {B : Type 0} (part : Desk → B) (zero : B) (ds : List Desk) → length ds ≡ 16 → filled part zero ds 16 ≡ map part ds
filled_all part zero ds long = rw (take_all 16 (map part ds) (simp length-map (omega arith)), append-nil) refl

-- one desk more, with its sets in their words
pub so_far_more : (r : Report) (ds : List Desk) → length ds ≡ 16 → (i : ℕ) (d : Desk) (now : Report) → i < 16 → now ≡ so_far r ds i → d ≡ get_or ds i d
    → (listed sent : ℕ) (received : List ℕ) → listed ≡ d.listed → sent ≡ d.sent → received ≡ d.received
    → record now {
      faulty = set now.faulty i d.faulty;
      pass = set now.pass i d.pass_on;
      accept = set now.accept i d.accept;
      listed = set now.listed i listed;
      sent = set now.sent i sent;
      received = set now.received i received;
    } ≡ so_far r ds (i + 1)
so_far_more r ds long i d now h is at listed sent received e e' e'' =
    rw (
      is,
      e,
      e',
      e'',
      filled_more (λ (d : Desk). d.faulty) false ds i d long h at,
      filled_more (λ (d : Desk). d.pass_on) 0 ds i d long h at,
      filled_more (λ (d : Desk). d.accept) 0 ds i d long h at,
      filled_more (λ (d : Desk). d.listed) 0 ds i d long h at,
      filled_more (λ (d : Desk). d.sent) 0 ds i d long h at,
      filled_more (λ (d : Desk). d.received) (replicate 64 0) ds i d long h at,
    ) refl

pub so_far_all : (ran : Ran) (fl : Floor) (i : ℕ) (now : Report) → i ≤ 16 → 16 ≤ i → length fl.desks ≡ 16 → now ≡ so_far (reported ran fl) fl.desks i → now ≡ reported ran fl
so_far_all ran fl i now h h' long is =
    let all : i ≡ 16 = omega arith in
    rw (
      is,
      all,
      filled_all (λ (d : Desk). d.faulty) false fl.desks long,
      filled_all (λ (d : Desk). d.pass_on) 0 fl.desks long,
      filled_all (λ (d : Desk). d.accept) 0 fl.desks long,
      filled_all (λ (d : Desk). d.listed) 0 fl.desks long,
      filled_all (λ (d : Desk). d.sent) 0 fl.desks long,
      filled_all (λ (d : Desk). d.received) (replicate 64 0) fl.desks long,
    ) refl
