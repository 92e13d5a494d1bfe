-- A hold follows the rules: its floor is the rules' floor after the actions that were asked for, all is in shape, and what is noted is what
-- the rules' run says. An opening begins so, and every action and every print goes on so, refused or not. Assumes nothing.
use Rattle.std.proofs.Common.{◌≡◌, ◌∙◌, ℕ, ◌≤◌, ◌<◌, true, false, ◌&&◌, nat_eq, nat_le, List, [], ◌∷◌, ◌++◌, length, replicate, Option, Some, Ok, Err, subst, refl, sym, ap}
use Rattle.std.proofs.lemmas.List.{length-replicate}
use mathlib.Core.List.{append-nil}
use mathlib.Core.Bool.{and-true, and-false}
use lib.ListN.{get_or-replicate}
use borrow.Author.Tests.{eq-eqb, ne_eqb}
use Rattle.sets.specs.Sets.{insert_below}
use Rattle.sets.proofs.Tests.{and_left}
use Rattle.sets.proofs.MemberLaws.{insert_below_low}
use Rattle.rules.specs.declared.Settings.{Settings}
use Rattle.rules.specs.declared.Action.{Action}
use Rattle.rules.specs.declared.Action.TheVariants.{Announce}
use Rattle.rules.specs.Rules.{State, within_limits, fresh, fresh_desk, answer, next}
use Rattle.rules.specs.Running.{Asked}
use Rattle.floors.proofs.Shapes.{opened_in_shape}
use Rattle.rules.proofs.Effects.{next_kept}
use Rattle.agreement.specs.Wait.{announces, floor_after}
use Rattle.agreement.proofs.AfterLaws.{settings_after}
use Rattle.floors.specs.Floors.{state_of, floor_of}
use Rattle.holds.specs.declared.Hold.{Hold}
use Rattle.holds.specs.Stickers.{fresh_sticker, begun, noted_fits}
use Rattle.holds.specs.Holds.{sticker_at, begun_at, noted_at, new_hold, announcing, printed, after, taken}
use Rattle.holds.specs.Steps.{asks_for}
use Rattle.holds.proofs.ShapeKept as kept
use Rattle.holds.proofs.Noting.{one_more, Noting, noting_none, noting_other, noting_announced}
use Rattle.holds.proofs.HoldLaws.{Fit, asked_is, each_noted, noted_each}
use Rattle.holds.proofs.PrintLaws.{marked_either, printed_either, printed_fit}
use Rattle.holds.proofs.ActionLaws.{left, with, state_left, announcer_below, entry_below, by_entry, own, same_fit, announced_fit, after_either}

module _ (k : Settings) (few : k.desks ≤ 16) where
  pub record Follows (actions : List Action) (h : Hold) (area : List ℕ) : Type 0 where
    pub state : state_of h.floor area ≡ floor_after k actions
    pub fit : Fit h area
    pub noting : (e : ℕ) → e < 64 → Noting k few e actions (sticker_at h.stickers e).announced (sticker_at h.stickers e).noted

  -- the settings are those that the floor was opened with
  pub opened_with : (actions : List Action) (h : Hold) (area : List ℕ) → Follows actions h area → h.floor.settings ≡ k
  opened_with actions h area g = ap (λ (t : State). t.settings) g.state ∙ settings_after k actions

  -- ---- an action

  module _ (actions : List Action) (h : Hold) (area : List ℕ) (g : Follows actions h area) where
    led : (m : Action) → state_of (floor_of (next (state_of h.floor area) m)) (left h area g.fit m) ≡ floor_after k (actions ++ m ∷ [])
    led m = state_left h area g.fit m ∙ ap (λ (t : State). next t m) g.state ∙ sym (one_more k actions m)

    -- an entry of which nothing is noted
    quiet : (m : Action) (e : ℕ) → e < 64 → ((i : ℕ) → announces e (state_of h.floor area) m i ≡ false)
        → Noting k few e (actions ++ m ∷ []) (sticker_at h.stickers e).announced (sticker_at h.stickers e).noted
    quiet m e l none =
        noting_other k few e actions (sticker_at h.stickers e).announced (sticker_at h.stickers e).noted (g.noting e l) m
        (λ i. subst (λ (t : State). announces e t m i ≡ false) g.state (none i))

    -- nothing is announced
    silent_follows : (m : Action) → ((e i : ℕ) → announces e (state_of h.floor area) m i ≡ false) → Follows (actions ++ m ∷ []) (with h area g.fit m h.stickers) (left h area g.fit m)
    silent_follows m none = record { state = led m; fit = same_fit h area g.fit m; noting = λ e l. quiet m e l (none e) }

    -- an announcement is noted
    module _ (d c : ℕ) (done : answer (state_of h.floor area) (Announce d c) ≡ Ok tt) where
      does : (e i : ℕ) → announces e (state_of h.floor area) (Announce d c) i ≡ (nat_eq d i && nat_eq c e)
      does e i = rw done refl

      own_noting : Noting k few c (actions ++ Announce d c ∷ []) (own h area g.fit d c done).announced (own h area g.fit d c done).noted
      own_noting =
          let same = opened_with actions h area g in
          let clock : h.floor.clock ≡ (floor_after k actions).clock = ap (λ (t : State). t.clock) g.state in
          rw (insert_below_low 16 (sticker_at h.stickers c).announced d (announcer_below h area g.fit d c done).1, same, clock)
          (noting_announced k few c actions (sticker_at h.stickers c).announced (sticker_at h.stickers c).noted (g.noting c (entry_below h area g.fit d c done).1) (Announce d c) d
          (subst (λ (q : Settings). d < q.desks) same (announcer_below h area g.fit d c done).0)
          (λ i. subst (λ (t : State). announces c t (Announce d c) i ≡ nat_eq d i) g.state (does c i ∙ rw (eq-eqb c c refl, and-true) refl)))

      announced_follows : Follows (actions ++ Announce d c ∷ []) (with h area g.fit (Announce d c) (announcing h d c)) (left h area g.fit (Announce d c))
      announced_follows =
          record {
            state = led (Announce d c);
            fit = announced_fit h area g.fit d c done;
            noting = by_entry h area g.fit d c done (λ e st. Noting k few e (actions ++ Announce d c ∷ []) st.announced st.noted) own_noting
                (λ e l other. quiet (Announce d c) e l (λ i. does e i ∙ rw (ne_eqb c e (λ q. other (sym q)), and-false) refl));
          }

    pub taken_follows : (x : Asked) → let o = taken (record { hold = h; area = area }) x in Follows (actions ++ asks_for x) o.hold o.area
    taken_follows x =
        subst (λ (y : Asked). Follows (actions ++ asks_for x) (after h area y).hold (after h area y).area) (sym (asked_is h area g.fit x)) (go x)
      where
        go : (y : Asked) → Follows (actions ++ asks_for y) (after h area y).hold (after h area y).area
        go (Ok m) = after_either h area g.fit m (λ n q. Follows (actions ++ n ∷ []) q (left h area g.fit n)) announced_follows silent_follows
        go (Err refusal) = rw append-nil g

  -- ---- a print

  pub printed_follows : (actions : List Action) (h : Hold) (area : List ℕ) → Follows actions h area → (e : ℕ) → Follows actions (printed h area e) area
  printed_follows actions h area g e =
      printed_either h area e (Follows actions) g
      (λ below over new.
      let marked = record (sticker_at h.stickers e) { printed = true } in
      let there : e < length h.stickers = rw g.fit.stickers below in
      record {
        state = g.state;
        fit = printed_fit h area e g.fit below over;
        noting = λ c l. marked_either h.stickers e there (λ c st. Noting k few c actions st.announced st.noted) (g.noting e below) c (g.noting c l);
      })

-- ---- an opening

pub opened_follows : (k : Settings) (within : within_limits k ≡ true) (few : k.desks ≤ 16) → Follows k few [] (new_hold (floor_of (fresh k))) (replicate 2048 0)
opened_follows k within few =
    record {
      state = refl;
      fit = record {
        room = length-replicate {A = ℕ} 2048 0;
        floor = opened_in_shape k (replicate 2048 0) within;
        noted = each_noted (new_hold (floor_of (fresh k))) (λ e l. rw (get_or-replicate 64 e fresh_sticker fresh_sticker l) (kept.fresh_shape (floor_of (fresh k)) e));
        desks = length-replicate 16 fresh_desk;
        stickers = length-replicate 64 fresh_sticker;
      };
      noting = λ e l. rw (get_or-replicate 64 e fresh_sticker fresh_sticker l) (noting_none k few e);
    }

-- a wait that has begun stays begun, and its noted clock stays
module _ (k : Settings) (few : k.desks ≤ 16) (actions : List Action) (h : Hold) (area : List ℕ) (g : Follows k few actions h area) (e : ℕ) (low : e < 64) where
  pub noted_begun : (T : ℕ) → noted_at h e ≡ Some T → begun_at h e ≡ true
  noted_begun T is =
      let fits : noted_fits (begun_at h e) h.floor.clock (Some T) ≡ true = subst (λ (o : Option ℕ). noted_fits (begun_at h e) h.floor.clock o ≡ true) is (noted_each h g.fit.noted e low).noted in
      and_left (begun_at h e) (nat_le T h.floor.clock) fits

  pub taken_noted : (x : Asked) → begun_at h e ≡ true → let h' = (taken (record { hold = h; area = area }) x).hold in (begun_at h' e ≡ true) × (noted_at h' e ≡ noted_at h e)
  taken_noted x was =
      subst (λ (y : Asked). Stays (after h area y).hold) (sym (asked_is h area g.fit x)) (go x)
    where
      Stays : Hold → Type 0
      Stays q = (begun_at q e ≡ true) × (noted_at q e ≡ noted_at h e)

      same : (m : Action) → (next (state_of h.floor area) m).settings.faults ≡ h.floor.settings.faults
      same m = ap (λ (q : Settings). q.faults) (next_kept (state_of h.floor area) m).settings

      told : (d c : ℕ) (done : answer (state_of h.floor area) (Announce d c) ≡ Ok tt) → Stays (with h area g.fit (Announce d c) (announcing h d c))
      told d c done =
          rw (same (Announce d c))
          (by_entry h area g.fit d c done (λ q st. begun_at h q ≡ true → (begun h.floor.settings.faults st.announced ≡ true) × (st.noted ≡ noted_at h q))
          (λ b. (
            rw (insert_below_low 16 (sticker_at h.stickers c).announced d (announcer_below h area g.fit d c done).1) (kept.begun_more h.floor.settings.faults (sticker_at h.stickers c).announced d b),
            kept.noted_again h.floor.settings.faults (sticker_at h.stickers c).announced (insert_below 16 (sticker_at h.stickers c).announced d) h.floor.clock (noted_at h c) b,
          ))
          (λ q l other b. (b, refl)) e low was)

      go : (y : Asked) → Stays (after h area y).hold
      go (Ok m) = after_either h area g.fit m (λ n q. Stays q) told (λ n silent. (rw (same n) was, refl))
      go (Err refusal) = (was, refl)
