-- How long the report is at most.
use Rattle.std.proofs.Common.{◌≡◌, Bool, true, false, ℕ, zero, suc, ◌*◌, ◌^◌, ◌<◌, ◌≤◌, leb-true, List, [], length, Option, Some, None, IfSome, arith, nat_le, inl, inr}
use Rattle.std.specs.Prelude.{if◌then◌else◌, ◌==◌}
use Rattle.std.proofs.lemmas.List.{length-append}
use lib.ListN.{get_or-replicate}
use Rattle.sets.proofs.Tests.{and_right}
use Rattle.rules.specs.declared.Settings.{Settings}
use Rattle.floors.proofs.Shapes.{in_shape_ready, in_shape_waiting}
use Rattle.holds.specs.declared.Hold.{Hold}
use Rattle.holds.specs.Stickers.{fresh_sticker, begun, noted_fits}
use Rattle.holds.specs.Holds.{sticker_at, noted_at}
use Rattle.holds.proofs.HoldLaws.{noted_each}
use Rattle.reports.specs.Lines.{heading_text}
use Rattle.reports.proofs.LengthLaws.{digits_most, heading_text_most}
use Rattle.hold.specs.Text.{first_clock, may_now, verdict_text, noted_text, told_clock, entry_text, entries_noted, hold_text}
use Rattle.hold.proofs.InputLaws.{Left}

verdict_most : (may : Bool) → length (verdict_text may) ≤ 5
verdict_most true = omega arith
verdict_most false = omega arith

noted_text_most : (k : Settings) (e : ℕ) (noted : Option ℕ) (may : Bool) → e < 2 ^ 64 → IfSome noted (λ clock. first_clock k clock < 2 ^ 64) → length (noted_text k e noted may) ≤ 86
noted_text_most k e None may h fits = omega arith
noted_text_most k e (Some noted) may h fits =
    let later : noted < 2 ^ 64 = omega (arith, fits) in
    simp length-append (omega (arith, digits_most e h, digits_most noted later, digits_most (first_clock k noted) fits, verdict_most may))

-- the numbers of a hold are those that their types hold
pub record Numbers (h : Hold) : Type 0 where
  pub clock : h.floor.clock < 2 ^ 32
  pub waiting : h.floor.waiting < 2 ^ 64
  pub message : h.floor.settings.message < 2 ^ 32
  pub pass_on : h.floor.settings.pass_on < 2 ^ 32
  pub accept : h.floor.settings.accept < 2 ^ 32
  pub noted : (e : ℕ) → e < 64 → IfSome (noted_at h e) (λ clock. clock < 2 ^ 32)

module _ (h : Hold) (area : List ℕ) (numbers : Numbers h) where
  noted_first : (noted : Option ℕ) → IfSome noted (λ clock. clock < 2 ^ 32) → IfSome noted (λ clock. first_clock h.floor.settings clock < 2 ^ 64)
  noted_first None fits = tt
  noted_first (Some noted) fits = omega (arith, fits, numbers.message, numbers.pass_on, numbers.accept)

  told_first : (started : Bool) (noted : Option ℕ) → IfSome noted (λ clock. clock < 2 ^ 32)
      → IfSome (if started then noted else None) (λ clock. first_clock h.floor.settings clock < 2 ^ 64)
  told_first true noted fits = noted_first noted fits
  told_first false noted fits = tt

  entry_text_most : (e : ℕ) → e < 64 → length (entry_text h area e) ≤ 86
  entry_text_most e below =
      let st = sticker_at h.stickers e in
      let k = h.floor.settings in
      noted_text_most k e (told_clock k.faults st) (may_now h area e) (omega (arith, below)) (told_first (begun k.faults st.announced) st.noted (numbers.noted e below))

  entries_noted_most : (k : ℕ) → k ≤ 64 → length (entries_noted k h area) ≤ k * 86
  entries_noted_most zero few = omega arith
  entries_noted_most (suc k) few =
      rw (length-append (entries_noted k h area) (entry_text h area k)) (omega (arith, entries_noted_most k (omega (arith, few)), entry_text_most k (omega (arith, few))))

  told_most : (none : Bool) → length (if none then [] else entries_noted 64 h area) ≤ 5504
  told_most true = omega arith
  told_most false = entries_noted_most 64 (omega arith)

  -- of every hold, in shape or not
  pub hold_text_most : (count answer : ℕ) → count < 2 ^ 64 → answer < 2 ^ 64 → length (hold_text count answer h area) ≤ 5613
  unfolding hold_text
  hold_text_most count answer c a =
      let clock : h.floor.clock < 2 ^ 64 = omega (arith, numbers.clock) in
      rw (length-append (heading_text count answer h.floor) (if h.floor.settings.desks == 0 then [] else entries_noted 64 h area))
      (omega (arith, heading_text_most count answer h.floor c a clock numbers.waiting, told_most (h.floor.settings.desks == 0)))

-- a noted clock is not to come
noted_past : (started : Bool) (clock : ℕ) (noted : Option ℕ) → clock < 2 ^ 32 → noted_fits started clock noted ≡ true → IfSome noted (λ clock. clock < 2 ^ 32)
noted_past started clock None c fits = tt
noted_past started clock (Some noted) c fits = let past : noted ≤ clock = leb-true noted clock (and_right started (nat_le noted clock) fits) in omega (arith, past, c)

pub left_numbers : (h : Hold) (area : List ℕ) → Left (record { hold = h; area = area }) → Numbers h
left_numbers h area (inl none) =
    rw none
    (record {
      clock = omega arith;
      waiting = omega arith;
      message = omega arith;
      pass_on = omega arith;
      accept = omega arith;
      noted = λ e l. rw (get_or-replicate 64 e fresh_sticker fresh_sticker l) tt;
    })
left_numbers h area (inr fit) =
    let ready = in_shape_ready h.floor area fit.floor in
    let clock : h.floor.clock < 2 ^ 32 = omega (arith, ready.clock) in
    record {
      clock = clock;
      waiting = omega (arith, in_shape_waiting h.floor area fit.floor);
      message = omega (arith, ready.message);
      pass_on = omega (arith, ready.pass_on);
      accept = omega (arith, ready.accept);
      noted = λ e l. noted_past (begun h.floor.settings.faults (sticker_at h.stickers e).announced) h.floor.clock (noted_at h e) clock (noted_each h fit.noted e l).noted;
    }
