-- Record after record of a sequence on a hold, as the loop goes. Assumes nothing.
use Rattle.std.proofs.Common.{◌≡◌, ◌∙◌, ℕ, suc, ◌+◌, ◌-◌, ◌/◌, ◌≤◌, ◌<◌, Bool, false, List, ◌∷◌, length, drop, nat_eq, Some, None, Result, Ok, Err, OnErr, is_ok, refl, sym, ap, arith, add-one, if◌then◌else◌}
use Rattle.std.proofs.lemmas.Grind.{common_steps}
use mathlib.Core.Logic.{⊎_elim}
use native.Mathlib.Nat.{lt_of_lt_of_le}
use borrow.Author.Tests.{eq-eqb}
use Rattle.sets.proofs.Tests.{decided, cond_true}
use Rattle.rules.specs.declared.Settings.{Settings}
use Rattle.rules.specs.declared.Action.TheVariants.{Announce}
use Rattle.rules.specs.declared.Refusal.{Refusal}
use Rattle.rules.specs.declared.Refusal.TheVariants.{Form, Length}
use Rattle.rules.specs.Running.{Asked}
use Rattle.rules.proofs.CheckLaws.{carried_out_passed, announce_below}
use Rattle.records.specs.declared.Record.{Record}
use Rattle.records.specs.Records as records
use Rattle.records.specs.Records.{well_formed, fields_of, read_of, action_of, asked_in, record_at}
use Rattle.floors.specs.declared.Floor.{Floor}
use Rattle.floors.specs.declared.Told.{Told}
use Rattle.floors.specs.Floors.{state_of, no_floor, handed_in, once, acted, floor_after, area_after, opened, floor_opened, area_opened}
use Rattle.floors.proofs.Shapes.{in_shape_ready}
use Rattle.runs.specs.Runs.{asked_from, all_asked, whole_opening}
use Rattle.runs.proofs.FloorLaws.{opened_ok, opened_err}
use Rattle.holds.specs.declared.Hold.{Hold}
use Rattle.holds.specs.Holds.{Standing, new_hold, asked_of, stickers_after, answer_to, taken}
use Rattle.holds.specs.Sequences.{Went, begun, carried_out, ended, went_on, whole_begun, whole_of}
use Rattle.floors.proofs.Refused.{acted_done}
use Rattle.holds.proofs.ActionLaws.{refused_same}

-- ---- an announcement that was carried out is of one of 64 entries

pub announced_entry : (fl : Floor) (area : List ℕ) (x : Asked) (t : Told) (d c : ℕ) → acted (state_of fl area) (once (handed_in fl area) x) ≡ Ok t → x ≡ Ok (Announce d c) → c < 64
announced_entry fl area x t d c done is =
    let (shaped, carried) = acted_done fl area x t done (Announce d c) is in
    lt_of_lt_of_le (announce_below (state_of fl area) d c (carried_out_passed (state_of fl area) (Announce d c) carried)).1 (in_shape_ready fl area shaped).entries

-- what holds in any case holds where there is a refusal
pub on_err : (P : Type 0) (r : Result Told Refusal) → P → OnErr r P
on_err P (Ok t) p = tt
on_err P (Err refusal) p = p

-- ---- what sixteen bytes ask for

read_is : (part : List ℕ) → length part ≡ 16 → read_of part ≡ (if well_formed (fields_of part) then Ok (fields_of part) else Err Form)
unfolding read_of
read_is part long = cond_true (nat_eq (length part) 16) (if well_formed (fields_of part) then Ok (fields_of part) else Err Form) (Err Length) (eq-eqb (length part) 16 long)

no_action : (r : Record) → well_formed r ≡ false → action_of r ≡ Err Form
unfolding action_of
no_action r f = rw f refl

asked_read : (part : List ℕ) → length part ≡ 16 → asked_in part ≡ action_of (fields_of part)
asked_read part long =
    ⊎_elim
    (λ t. ap records.asked_of (read_is part long ∙ ap (λ (b : Bool). if b then Ok (fields_of part) else Err Form) t))
    (λ f. ap records.asked_of (read_is part long ∙ ap (λ (b : Bool). if b then Ok (fields_of part) else Err Form) f) ∙ sym (no_action (fields_of part) f))
    (decided (well_formed (fields_of part)))

record_long : (bytes : List ℕ) (k : ℕ) → k < length bytes / 16 → length (record_at bytes k) ≡ 16
record_long bytes k more = grind (arith, common_steps)

-- ---- the loop

-- k many were carried out
abbrev pub going : ℕ → Hold → List ℕ → Went
going k h area = record { taken = record { count = k; refusal = None }; left = record { hold = h; area = area } }

module _ (bytes : List ℕ) (k : ℕ) where
  abbrev many : ℕ
  many = length bytes / 16

  pub left_none : (h : Hold) (area : List ℕ) → k ≤ many → many ≤ k → went_on (going k h area) (asked_from bytes k (many - k)) ≡ going many h area
  left_none h area near far =
      let e : many - k ≡ 0 = omega arith in
      let same : k ≡ many = omega arith in
      rw e (ap (λ (q : ℕ). going q h area) same)

  one_left : k < many → asked_from bytes k (many - k) ≡ asked_in (record_at bytes k) ∷ asked_from bytes (k + 1) (many - (k + 1))
  one_left more = let e : many - k ≡ suc (many - (k + 1)) = omega arith in rw (e, add-one k) refl

  module _ (more : k < many) (h : Hold) (area : List ℕ) (r : Record) (read : r ≡ fields_of (record_at bytes k)) where
    abbrev o : Standing
    o = record { hold = h; area = area }

    x_is : asked_in (record_at bytes k) ≡ action_of r
    x_is = asked_read (record_at bytes k) (record_long bytes k more) ∙ ap action_of (sym read)

    on : went_on (going k h area) (asked_from bytes k (many - k)) ≡ went_on (going k h area) (action_of r ∷ asked_from bytes (k + 1) (many - (k + 1)))
    on = ap (went_on (going k h area)) (one_left more) ∙ ap (λ (y : Asked). went_on (going k h area) (y ∷ asked_from bytes (k + 1) (many - (k + 1)))) x_is

    pub left_next : (t : Told) → Ok t ≡ answer_to o (action_of r) → (h' : Hold) (area' : List ℕ) → h'.floor ≡ floor_after h.floor area (asked_of h area (action_of r))
        → h'.stickers ≡ stickers_after h area (asked_of h area (action_of r)) → area' ≡ area_after h.floor area (asked_of h area (action_of r))
        → went_on (going k h area) (asked_from bytes k (many - k)) ≡ went_on (going (k + 1) h' area') (asked_from bytes (k + 1) (many - (k + 1)))
    left_next t e h' area' floors stickers areas =
        let rest = asked_from bytes (k + 1) (many - (k + 1)) in
        let ahead : carried_out (going k h area) (action_of r) ≡ going (k + 1) h' area' = rw (← floors, ← stickers, ← areas) refl in
        on
        ∙ cond_true (is_ok (answer_to o (action_of r))) (went_on (carried_out (going k h area) (action_of r)) rest) (ended (answer_to o (action_of r)) (going k h area)) (ap is_ok (sym e))
        ∙ ap (λ (v : Went). went_on v rest) ahead

    pub left_stop : (refusal : Refusal) → Err refusal ≡ answer_to o (action_of r) → (h' : Hold) (area' : List ℕ) → h'.floor ≡ floor_after h.floor area (asked_of h area (action_of r))
        → h'.stickers ≡ stickers_after h area (asked_of h area (action_of r)) → area' ≡ area_after h.floor area (asked_of h area (action_of r))
        → went_on (going k h area) (asked_from bytes k (many - k)) ≡ record { taken = record { count = k; refusal = Some refusal }; left = record { hold = h'; area = area' } }
    left_stop refusal e h' area' floors stickers areas =
        let now : record { hold = h'; area = area' } ≡ taken o (action_of r) = rw (← floors, ← stickers, ← areas) refl in
        let same : ◌≡◌ {A = Standing} (record { hold = h'; area = area' }) o = now ∙ refused_same o (action_of r) refusal (sym e) in
        on ∙ rw (← e) (ap (λ (q : Standing). let v : Went = record { taken = record { count = k; refusal = Some refusal }; left = q } in v) (sym same))

-- ---- what an opening leaves that is refused: the hold of no floor, and the area as it was

pub kept_opening : (area : List ℕ) (x : Result Settings Refusal) → OnErr x ((new_hold (floor_opened x) ≡ new_hold no_floor) × (area_opened area x ≡ area))
kept_opening area (Ok k) = tt
kept_opening area (Err refusal) = (refl, refl)

pub opened_kept : (area : List ℕ) (x : Result Settings Refusal) → OnErr (opened x) ((new_hold (floor_opened x) ≡ new_hold no_floor) × (area_opened area x ≡ area))
opened_kept area (Ok k) = tt
opened_kept area (Err refusal) = (refl, refl)

-- nothing is said where it is carried out
pub where_opened : (P : Type 0) (x : Result Settings Refusal) → Ok tt ≡ opened x → OnErr x P
where_opened P (Ok k) e = tt
where_opened P (Err refusal) e = cc

-- ---- a whole sequence

-- fl and left are the floor and the area that the opening left
module _ (area bytes : List ℕ) (fl : Floor) (left : List ℕ) (floors : fl ≡ floor_opened (whole_opening area bytes)) (areas : left ≡ area_opened area (whole_opening area bytes)) where
  pub whole_opens : Ok tt ≡ opened (whole_opening area bytes) → (w : Went) → w ≡ went_on (begun (record { hold = new_hold fl; area = left })) (all_asked (drop 16 bytes)) → w ≡ whole_of area bytes
  whole_opens e w went =
      (rw (floors, areas) at went)
      ∙ sym (cond_true (is_ok (whole_opening area bytes)) (went_on (whole_begun area bytes) (all_asked (drop 16 bytes))) (ended (whole_opening area bytes) (whole_begun area bytes)) (opened_ok (whole_opening area bytes) e))

  pub whole_refused : (refusal : Refusal) → Err refusal ≡ opened (whole_opening area bytes)
      → ◌≡◌ {A = Went} (record { taken = record { count = 0; refusal = Some refusal }; left = record { hold = new_hold fl; area = left } }) (whole_of area bytes)
  whole_refused refusal e = let is = opened_err (whole_opening area bytes) refusal e in rw (floors, areas, is) refl

  pub whole_kept : OnErr (whole_opening area bytes) ((new_hold fl ≡ new_hold no_floor) × (left ≡ area))
  whole_kept = rw (floors, areas) (kept_opening area (whole_opening area bytes))
