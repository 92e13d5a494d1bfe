-- THE WAIT IS ENOUGH, over the rules. The parts of the statement are in specs/Wait.antt.
use mathlib.Core.Logic.{inr}
use mathlib.Core.List.{List, ◌++◌}
use Prim.Native.Nat.{ℕ}
use native.Mathlib.Nat.{le_trans}
use native.Mathlib.Omega.{arith}
use Rattle.sets.proofs.CountLaws.{count_mono}
use Rattle.rules.specs.declared.Settings.{Settings}
use Rattle.rules.specs.declared.Action.{Action}
use Rattle.rules.specs.Rules.{fresh}
use Rattle.rules.proofs.Effects.{fresh_clock}
use Rattle.agreement.specs.View.{announcers}
use Rattle.agreement.specs.Wait.{view, AnnouncedBy, WaitIsEnough, WaitStaysEnough}
use Rattle.agreement.proofs.Spread.{announced_stays, spread}
use Rattle.agreement.proofs.RulesLaws.{Good, fresh_good, laws}

pub wait_is_enough : WaitIsEnough
wait_is_enough k limits e below actions T announced late =
    spread (view e) k.desks k.faults k.message k.pass_on k.accept (Good k e) (laws k e below) (fresh k) (fresh_good k e limits) T (omega (arith, fresh_clock k)) actions
    (announcers (view e) T (fresh k) actions) (omega arith) (λ i l told. inr told) (omega arith)

-- whatever more is done, who has announced by clock T has announced by it
pub announced_more : (k : Settings) (e : ℕ) (actions more : List Action) (T : ℕ) → AnnouncedBy k e actions T → AnnouncedBy k e (actions ++ more) T
announced_more k e actions more T announced =
    le_trans announced
    (count_mono (announcers (view e) T (fresh k) actions) (announcers (view e) T (fresh k) (actions ++ more)) k.desks
    (λ i l told. announced_stays (view e) T (fresh k) actions more i told))

pub in_every_later_state : WaitStaysEnough
in_every_later_state k limits e below actions more T announced late =
    wait_is_enough k limits e below (actions ++ more) T (announced_more k e actions more T announced) late
