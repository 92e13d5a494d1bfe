-- The sticker of an entry is printed once: of any steps from an opening at most one is a print of it that is carried out. Assumes nothing.
use Rattle.std.proofs.Common.{◌≡◌, ◌∙◌, ℕ, zero, suc, ◌+◌, ◌≤◌, ◌<◌, true, false, nat_eq, List, [], ◌∷◌, set, length, Result, Ok, Err, is_ok, subst, refl, sym, ap, arith, length-set, get_or-set_same, get_or-set_other, if◌then◌else◌}
use Rattle.std.proofs.lemmas.List.{length-replicate}
use Rattle.std.specs.Prelude.{⊤}
use mathlib.Core.Logic.{⊎_elim}
use borrow.Author.Tests.{eqb-true, eqb-false}
use Rattle.sets.specs.Counting.{bit}
use Rattle.sets.proofs.Tests.{decided}
use Rattle.sets.proofs.CountLaws.{bit_le}
use Rattle.rules.specs.declared.Action.{Action}
use Rattle.rules.specs.declared.Action.TheVariants.{Delay, Announce, PassOn, Accept, Receive, Crash, ResetTimers, FalseNote}
use Rattle.rules.specs.declared.Refusal.{Refusal}
use Rattle.rules.specs.Rules.{answer}
use Rattle.rules.specs.Running.{Asked}
use Rattle.records.specs.declared.Record.{Record}
use Rattle.records.specs.Records.{action_of}
use Rattle.floors.specs.Floors.{state_of}
use Rattle.holds.specs.declared.Sticker.{Sticker}
use Rattle.holds.specs.declared.Hold.{Hold}
use Rattle.holds.specs.Stickers.{fresh_sticker}
use Rattle.holds.specs.Holds.{sticker_at, is_printed, noting, stickers_after, asked_of, may_print, with_printed, printed, Standing, taken}
use Rattle.holds.specs.Steps.{Step, action, print, opened_hold, is_print_of, times_printed}
use Rattle.holds.proofs.PrintLaws.{marked, may_parts}

-- ---- an action prints nothing

-- other stickers, of which each is printed or not as it was
pub record SamePrinted (old new : List Sticker) : Type 0 where
  pub long : length new ≡ length old
  pub same : (e : ℕ) → (sticker_at new e).printed ≡ (sticker_at old e).printed

unchanged : (sts : List Sticker) → SamePrinted sts sts
unchanged sts = record { long = refl; same = λ e. refl }

printed_set : (sts : List Sticker) (c : ℕ) (st : Sticker) → st.printed ≡ (sticker_at sts c).printed → (e : ℕ) → (sticker_at (set sts c st) e).printed ≡ (sticker_at sts e).printed
printed_set [] c st h e = refl
printed_set (x ∷ sts) zero st h zero = h
printed_set (x ∷ sts) zero st h (suc e) = refl
printed_set (x ∷ sts) (suc c) st h zero = refl
printed_set (x ∷ sts) (suc c) st h (suc e) = printed_set sts c st h e

noting_printed : (h : Hold) (m : Action) → SamePrinted h.stickers (noting h m)
noting_printed h (Announce d c) = record { long = length-set h.stickers c _; same = printed_set h.stickers c _ refl }
noting_printed h (Delay t) = unchanged h.stickers
noting_printed h (PassOn i) = unchanged h.stickers
noting_printed h (Accept i) = unchanged h.stickers
noting_printed h (Receive i j e) = unchanged h.stickers
noting_printed h (Crash i) = unchanged h.stickers
noting_printed h (ResetTimers i) = unchanged h.stickers
noting_printed h (FalseNote i j e t) = unchanged h.stickers

after_printed : (h : Hold) (area : List ℕ) (x : Asked) → SamePrinted h.stickers (stickers_after h area x)
after_printed h area (Err refusal) = unchanged h.stickers
after_printed h area (Ok m) =
    elim (is_ok (answer (state_of h.floor area) m)) as (λ b. SamePrinted h.stickers (if b then noting h m else h.stickers)) [
      | true ↦ noting_printed h m
      | false ↦ unchanged h.stickers
    ]

-- ---- how often an entry is printed, and whether it was before

abbrev Once : ℕ → Standing → List Step → Type 0
Once e o steps = times_printed e o steps + bit (is_printed o.hold e) ≤ 1

once : (e : ℕ) (o : Standing) → length o.hold.stickers ≡ 64 → (steps : List Step) → Once e o steps
once e o long [] = omega (arith, bit_le (is_printed o.hold e))
once e o long (action r ∷ steps) =
    let x = asked_of o.hold o.area (action_of r) in
    let same = after_printed o.hold o.area x in
    let stays : bit (is_printed (taken o (action_of r)).hold e) ≡ bit (is_printed o.hold e) = ap bit (same.same e) in
    omega (arith, stays, once e (taken o (action_of r)) (same.long ∙ long) steps)
once e o long (print c ∷ steps) = go (may_print o.hold o.area c) refl (λ o' many. once e o' many steps)
  where
    next : Standing
    next = record { hold = printed o.hold o.area c; area = o.area }

    go : (a : Result ⊤ Refusal) → may_print o.hold o.area c ≡ a → ((o' : Standing) → length o'.hold.stickers ≡ 64 → Once e o' steps) → Once e o (print c ∷ steps)
    go (Err refusal) is later =
        let same : printed o.hold o.area c ≡ o.hold = rw is refl in
        let none : is_print_of e o (print c) ≡ 0 = rw is refl in
        let rest : Once e o steps = later o long in
        let rest' : times_printed e next steps + bit (is_printed o.hold e) ≤ 1 = subst (λ (h : Hold). times_printed e (record { hold = h; area = o.area }) steps + bit (is_printed o.hold e) ≤ 1) (sym same) rest in
        omega (arith, none, rest')
    go (Ok _) is later =
        let p = may_parts o.hold o.area c is in
        let there : c < length o.hold.stickers = rw long p.below in
        let marks : printed o.hold o.area c ≡ with_printed o.hold c = rw is refl in
        let many : length (printed o.hold o.area c).stickers ≡ 64 = rw marks (length-set o.hold.stickers c (marked (sticker_at o.hold.stickers c)) ∙ long) in
        let rest : Once e next steps = later next many in
        let prints : is_print_of e o (print c) ≡ bit (nat_eq c e) = rw is refl in
        ⊎_elim
        (λ same. let here : c ≡ e = eqb-true c e same in
        let before : bit (is_printed o.hold e) ≡ 0 = ap bit (subst (λ (n : ℕ). is_printed o.hold n ≡ false) here p.new) in
        let after : bit (is_printed (printed o.hold o.area c) e) ≡ 1 = rw marks (ap bit (subst (λ (n : ℕ). (sticker_at (set o.hold.stickers c (marked (sticker_at o.hold.stickers c))) n).printed ≡ true) here
        (ap (λ (st : Sticker). st.printed) (get_or-set_same o.hold.stickers c (marked (sticker_at o.hold.stickers c)) fresh_sticker there)))) in
        omega (arith, bit_le (nat_eq c e), prints, before, after, rest))
        (λ differs. let none : bit (nat_eq c e) ≡ 0 = ap bit differs in
        let stays : bit (is_printed (printed o.hold o.area c) e) ≡ bit (is_printed o.hold e) = rw marks (ap (λ (st : Sticker). bit st.printed)
        (get_or-set_other o.hold.stickers c e (marked (sticker_at o.hold.stickers c)) fresh_sticker (λ q. eqb-false c e differs (sym q)))) in
        omega (arith, none, prints, stays, rest))
        (decided (nat_eq c e))

pub printed_once : (e : ℕ) (area : List ℕ) (r : Record) (steps : List Step) → times_printed e (opened_hold area r) steps ≤ 1
printed_once e area r steps = omega (arith, once e (opened_hold area r) (length-replicate 64 fresh_sticker) steps)
