-- The count of leading well-formed records: it is r where r records in front are well formed, and where the one after them, if there is one,
-- is not; and what a chain of iterators over the records says.
use Rattle.std.proofs.Common.{◌≡◌, ℕ, zero, suc, ◌+◌, ◌-◌, ◌*◌, ◌/◌, ◌<◌, ◌≤◌, Bool, true, false, is_ok, List, length, Option, Some, None, Err, arith, refl, sym, ◌∙◌, add-zero, add-suc, suc-add, zero-add, drop, length-drop, length-take-le}
use Rattle.std.specs.Iterator.Runs.{Run, IsTakeWhileRun, IsChunksExactRun, CallKeepsClosure}
use Rattle.std.specs.Fn.{CalledAt}
use denote.Ref.{Bor}
use denote.Param.Members.{Mut}
use Rattle.records.specs.Records.{well_formed, fields_of, read_of, record_at, leading_from, leading}
use Rattle.rules.specs.declared.Refusal.TheVariants.{Form}

abbrev good : List ℕ → ℕ → Bool
good bytes k = is_ok (read_of (record_at bytes k))

leads-from : (bytes : List ℕ) (k n r : ℕ) → r ≤ n → ((i : ℕ) → k ≤ i → i < k + r → good bytes i ≡ true) → (r < n → good bytes (k + r) ≡ false)
    → r ≡ leading_from bytes k n
leads-from bytes k zero r within all ends = omega arith
leads-from bytes k (suc n) zero within all ends =
    let bad : good bytes k ≡ false = rw (add-zero k) at (ends (omega arith)) in
    rw bad refl
leads-from bytes k (suc n) (suc r) within all ends =
    let first : good bytes k ≡ true = all k (omega arith) (omega arith) in
    let more = leads-from bytes (suc k) n r (omega arith) (λ i from below. all i (omega arith) (omega (arith, add-suc k r, suc-add k r)))
    (λ short. rw (suc-add k r, ← add-suc k r) (ends (omega arith))) in
    rw (first, ← more) refl

leads : (bytes : List ℕ) (r : ℕ) → r ≤ length bytes / 16 → ((k : ℕ) → k < r → good bytes k ≡ true) → (r < length bytes / 16 → good bytes r ≡ false)
    → r ≡ leading bytes
leads bytes r within all ends =
    leads-from bytes 0 (length bytes / 16) r within (λ i from below. all i (omega arith)) (λ short. rw (zero-add r) (ends short))

-- sixteen bytes are accepted or refused for their form
refused : (bytes : List ℕ) → length bytes ≡ 16 → is_ok (read_of bytes) ≡ false → read_of bytes ≡ Err Form
unfolding read_of
refused bytes sixteen bad = go (well_formed (fields_of bytes)) refl
  where
    go : (b : Bool) → well_formed (fields_of bytes) ≡ b → read_of bytes ≡ Err Form
    go true e = absurd (let accepted = rw (sixteen, e) at bad in cc)
    go false e = rw (sixteen, e) refl

module _ (bytes : List ℕ) (any : Bor (List ℕ)) {S T F : Type 0} {steps : S → Option (Bor (List ℕ)) → S → Type 0} {source : T → Option (Bor (List ℕ)) → T → Type 0}
    (p : Run steps) (q : Run source) (g : Mut F (Bor (Bor (List ℕ)) × Unit {0}) Bool) (f : F)
    (n : ℕ) (xs : List ℕ) (sixteen : n ≡ 16) (same : xs ≡ bytes)
    (taken : IsTakeWhileRun p q g f) (chunks_of : IsChunksExactRun q n xs) (whole : p.whole ≡ true) (keeps : CallKeepsClosure g f)
    (calls : (x : Bor (List ℕ)) (b : Bool) (f' : F) → CalledAt g f x b f' → b ≡ is_ok (read_of x.now)) where
  chunks : IsChunksExactRun q 16 bytes
  chunks = rw (sixteen, same) at chunks_of

  item : (k : ℕ) (x : Bor (List ℕ)) → q.at k ≡ Some x → x.now ≡ record_at bytes k
  item k x e =
      let part = rw e at (chunks.2 k) in
      let start : k * 16 ≡ 16 * k = omega arith in
      let size : 16 * k + 16 - 16 * k ≡ 16 = omega arith in
      rw (size, ← start) part.2.0

  passed : (k : ℕ) → k < p.len → good bytes k ≡ true
  passed k below = go (p.at k) refl
    where
      go : (o : Option (Bor (List ℕ))) → p.at k ≡ o → good bytes k ≡ true
      go None e = absurd (let there = rw e at (p.reads k any below) in grind arith)
      go (Some x) e =
          let called = rw e at ((taken.2 keeps).0 k) in
          rw (← item k x (taken.1 k below ∙ e)) (sym (calls x true f called))

  failed : p.len < length bytes / 16 → good bytes p.len ≡ false
  failed short = go (q.at p.len) refl
    where
      go : (o : Option (Bor (List ℕ))) → q.at p.len ≡ o → good bytes p.len ≡ false
      go None e =
          let ended = rw e at ((taken.2 keeps).1 whole) in
          absurd (let all = chunks.1 ended.0 in omega (arith, ended.1))
      go (Some x) e =
          let called = rw e at ((taken.2 keeps).1 whole) in
          rw (← item p.len x e) (sym (calls x false called.0 called.1))

  whole_records : p.len ≤ length bytes / 16
  whole_records = let whole_chunks = chunks.0 in omega (arith, taken.0, whole_chunks)

  next : 16 * p.len + 16 ≤ length bytes → read_of (record_at bytes p.len) ≡ Err Form
  next room =
      let size : 16 * p.len + 16 - 16 * p.len ≡ 16 = omega arith in
      let long : length (record_at bytes p.len) ≡ 16 = rw size (length-take-le 16 (drop (16 * p.len) bytes) (simp length-drop (omega arith))) in
      refused (record_at bytes p.len) long (failed (omega arith))

  pub told : record {
    is : p.len ≡ leading bytes;
    within : 16 * p.len ≤ length bytes;
    counted : (k : ℕ) → k < p.len → good bytes k ≡ true;
    next : 16 * p.len + 16 ≤ length bytes → read_of (record_at bytes p.len) ≡ Err Form;
  }
  told = record { is = leads bytes p.len whole_records passed failed; within = omega (arith, whole_records); counted = passed; next = next }
