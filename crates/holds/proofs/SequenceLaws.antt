-- A whole sequence on a hold: it counts, answers and leaves a floor as the library does, and the hold that it leaves has the promise.
-- Assumes nothing.
use Rattle.std.proofs.Common.{◌≡◌, ◌∙◌, ℕ, zero, suc, ◌+◌, ◌/◌, ◌≤◌, ◌<◌, min, Bool, true, false, List, [], ◌∷◌, ◌++◌, length, take, drop, Result, Ok, Err, is_ok, subst, refl, sym, ap, arith, if◌then◌else◌}
use mathlib.Core.List.{append_assoc, append-nil}
use Rattle.sets.proofs.Tests.{cond_true}
use Rattle.rules.specs.declared.Settings.{Settings}
use Rattle.rules.specs.declared.Action.{Action}
use Rattle.rules.specs.declared.Refusal.{Refusal}
use Rattle.rules.specs.Rules.{within_limits}
use Rattle.rules.specs.Running.{Asked}
use Rattle.records.specs.declared.Record.{Record}
use Rattle.floors.specs.declared.Told.{Told}
use Rattle.floors.specs.Floors.{acted, floor_opened, area_opened}
use Rattle.runs.specs.Runs as runs
use Rattle.runs.specs.Runs.{asked_from, all_asked, first_of_whole, opening_by, whole_opening}
use Rattle.runs.specs.Calls.{actions, first_actions}
use Rattle.runs.proofs.RunLaws.{asked_first}
use Rattle.runs.proofs.WaitLaws.{opening_limits}
use Rattle.holds.specs.Holds.{new_hold, asked_of, answer_to}
use Rattle.holds.specs.Steps.{asks_for}
use Rattle.holds.specs.Sequences.{Went, begun, carried_out, ended, went_on, whole_of}
use Rattle.holds.specs.Promise.{Promised}
use Rattle.holds.specs.Theorems.{SeenAs}
use Rattle.holds.proofs.HoldLaws.{asked_is}
use Rattle.holds.proofs.Follows.{Follows, opened_with, taken_follows, opened_follows}
use Rattle.holds.proofs.Promised.{few, promised}

module _ (k : Settings) (within : within_limits k ≡ true) where
  -- ---- the hold that is left

  -- c of the records more were carried out, and the hold follows what they asked for
  pub record Leads (before : List Action) (w v : Went) (xs : List Asked) : Type 0 where
    pub more : ℕ
    pub some : more ≤ length xs
    pub counted : v.taken.count ≡ w.taken.count + more
    pub follows : Follows k (few k within) (before ++ actions (take more xs)) v.left.hold v.left.area

  -- nothing more was carried out
  stands : (before : List Action) (w v : Went) (xs : List Asked) → v.taken.count ≡ w.taken.count → Follows k (few k within) before v.left.hold v.left.area → Leads before w v xs
  stands before w v xs same g = record { more = 0; some = omega arith; counted = omega (arith, same); follows = rw append-nil g }

  actions_more : (x : Asked) (xs : List Asked) → actions (x ∷ xs) ≡ asks_for x ++ actions xs
  actions_more (Ok m) xs = refl
  actions_more (Err refusal) xs = refl

  leads : (before : List Action) (w : Went) → Follows k (few k within) before w.left.hold w.left.area → (xs : List Asked) → Leads before w (went_on w xs) xs
  leads before w g [] = stands before w w [] refl g
  leads before w g (x ∷ xs) = go (is_ok (answer_to w.left x)) (leads (before ++ asks_for x) (carried_out w x) (taken_follows k (few k within) before w.left.hold w.left.area g x) xs)
    where
      go : (b : Bool) → Leads (before ++ asks_for x) (carried_out w x) (went_on (carried_out w x) xs) xs
          → Leads before w (if b then went_on (carried_out w x) xs else ended (answer_to w.left x) w) (x ∷ xs)
      go true rest =
          let some = rest.some in
          let counted = rest.counted in
          record {
            more = suc rest.more;
            some = omega (arith, some);
            counted = omega (arith, counted);
            follows = rw (actions_more x (take rest.more xs), ← append_assoc) rest.follows;
          }
      go false rest = stands before w (ended (answer_to w.left x) w) (x ∷ xs) refl g

  -- ---- as the library

  same_on : (before : List Action) (w : Went) (u : runs.Went) → Follows k (few k within) before w.left.hold w.left.area → SeenAs w u → (xs : List Asked) → SeenAs (went_on w xs) (runs.went_on u xs)
  same_on before w u g same [] = same
  same_on before w u g same (x ∷ xs) =
      go (answer_to w.left x) refl
      (same_on (before ++ asks_for x) (carried_out w x) (runs.carried_out u x) (taken_follows k (few k within) before w.left.hold w.left.area g x) carried xs)
    where
      asked : asked_of w.left.hold w.left.area x ≡ x
      asked = asked_is w.left.hold w.left.area g.fit x

      carried : SeenAs (carried_out w x) (runs.carried_out u x)
      carried =
          rw asked
          (record {
            count = ap (λ (n : ℕ). n + 1) same.count;
            refusal = same.refusal;
            floor = rw (same.floor, same.area) refl;
            area = rw (same.floor, same.area) refl;
          })

      answered : answer_to w.left x ≡ acted (runs.state_in u) x
      answered = rw (asked, same.floor, same.area) refl

      go : (a : Result Told Refusal) → answer_to w.left x ≡ a → SeenAs (went_on (carried_out w x) xs) (runs.went_on (runs.carried_out u x) xs) → SeenAs (went_on w (x ∷ xs)) (runs.went_on u (x ∷ xs))
      go (Ok t) is rest =
          let here : is_ok (answer_to w.left x) ≡ true = rw is refl in
          let there : is_ok (acted (runs.state_in u) x) ≡ true = ap is_ok (sym answered) ∙ here in
          rw (
            cond_true (is_ok (answer_to w.left x)) (went_on (carried_out w x) xs) (ended (answer_to w.left x) w) here,
            cond_true (is_ok (acted (runs.state_in u) x)) (runs.went_on (runs.carried_out u x) xs) (runs.ended (acted (runs.state_in u) x) u) there,
          ) rest
      go (Err refusal) is rest = rw (is, ← answered, is) (record { count = same.count; refusal = refl; floor = same.floor; area = same.area })

-- ---- a whole sequence

-- so many records are asked
asked_length : (n k : ℕ) (bytes : List ℕ) → length (asked_from bytes k n) ≡ n
asked_length zero k bytes = refl
asked_length (suc n) k bytes = rw (asked_length n (suc k) bytes) refl

limits_by : (area : List ℕ) (o : Result Record Refusal) (k : Settings) → opening_by area o ≡ Ok k → within_limits k ≡ true
limits_by area (Ok r) k e = opening_limits area r k e
limits_by area (Err refusal) k e = cc

module _ (area bytes : List ℕ) where
  abbrev whole : Went
  whole = whole_of area bytes

  abbrev records : ℕ
  records = length (drop 16 bytes) / 16

  module _ (k : Settings) (opens : whole_opening area bytes ≡ Ok k) where
    abbrev limited : within_limits k ≡ true
    limited = limits_by area (first_of_whole area bytes) k opens

    abbrev start : Went
    start = begun (record { hold = new_hold (floor_opened (Ok k)); area = area_opened area (Ok k) })

    start_follows : Follows k (few k limited) [] start.left.hold start.left.area
    start_follows = opened_follows k limited (few k limited)

    whole_goes : whole ≡ went_on start (all_asked (drop 16 bytes))
    whole_goes = rw opens refl

    led : Leads k limited [] start whole (all_asked (drop 16 bytes))
    led = rw whole_goes (leads k limited [] start start_follows (all_asked (drop 16 bytes)))

    promised_whole : Promised k (first_actions (drop 16 bytes) whole.taken.count) whole.left.hold whole.left.area
    promised_whole =
        let count : whole.taken.count ≡ led.more = omega (arith, led.counted) in
        let some = led.some in
        let many : length (all_asked (drop 16 bytes)) ≡ records = asked_length records 0 (drop 16 bytes) in
        let few' : min led.more records ≡ led.more = omega (arith, some, many) in
        let first : asked_from (drop 16 bytes) 0 led.more ≡ take led.more (all_asked (drop 16 bytes)) = subst (λ (q : ℕ). asked_from (drop 16 bytes) 0 q ≡ take led.more (all_asked (drop 16 bytes))) few' (asked_first led.more records 0 (drop 16 bytes)) in
        promised k limited (first_actions (drop 16 bytes) whole.taken.count) whole.left.hold whole.left.area
        (subst (λ (n : ℕ). Follows k (few k limited) (actions (asked_from (drop 16 bytes) 0 n)) whole.left.hold whole.left.area) (sym count) (rw first led.follows))

    settings_kept : whole.left.hold.floor.settings ≡ k
    settings_kept = opened_with k (few k limited) (actions (take led.more (all_asked (drop 16 bytes)))) whole.left.hold whole.left.area led.follows

    same_opened : SeenAs whole (runs.whole_of area bytes)
    same_opened =
        let here : whole ≡ went_on start (all_asked (drop 16 bytes)) = whole_goes in
        rw opens
        (same_on k limited [] start (runs.begun (floor_opened (Ok k)) (area_opened area (Ok k))) start_follows (record { count = refl; refusal = refl; floor = refl; area = refl }) (all_asked (drop 16 bytes)))

  pub whole_promised : let k = whole.left.hold.floor.settings in 0 < k.entries → Promised k (first_actions (drop 16 bytes) whole.taken.count) whole.left.hold whole.left.area
  whole_promised = go (whole_opening area bytes) refl
    where
      go : (o : Result Settings Refusal) → whole_opening area bytes ≡ o → let k = whole.left.hold.floor.settings in 0 < k.entries → Promised k (first_actions (drop 16 bytes) whole.taken.count) whole.left.hold whole.left.area
      go (Ok k) opens some =
          subst (λ (q : Settings). Promised q (first_actions (drop 16 bytes) whole.taken.count) whole.left.hold whole.left.area) (sym (settings_kept k opens)) (promised_whole k opens)
      go (Err refusal) opens some = absurd (let none : whole.left.hold.floor.settings.entries ≡ 0 = rw opens refl in omega (arith, none, some))

  pub whole_seen : SeenAs whole (runs.whole_of area bytes)
  whole_seen = go (whole_opening area bytes) refl
    where
      go : (o : Result Settings Refusal) → whole_opening area bytes ≡ o → SeenAs whole (runs.whole_of area bytes)
      go (Ok k) opens = same_opened k opens
      go (Err refusal) opens = rw opens (record { count = refl; refusal = refl; floor = refl; area = refl })
