use Rattle.std.proofs.Common.{refl}
use Rattle.floors.specs.Floors.{state_of}
use Rattle.floors.proofs.Shapes.{in_shape_ready, in_shape_waiting, step_in_shape}
use Rattle.floors.proofs.Growth.{step_grows}
use Rattle.floors.proofs.Floor.act.Goals as goal

pub step-requires-clause-ready : goal.step-requires-clause-ready
step-requires-clause-ready c = in_shape_ready c.args.self.now c.args.area.now (c.in_ok-handed_in.ensures.shape refl)

pub step-requires-clause-waiting : goal.step-requires-clause-waiting
step-requires-clause-waiting c = in_shape_waiting c.args.self.now c.args.area.now (c.in_ok-handed_in.ensures.shape refl)

pub returns-clause-grown : goal.returns-clause-grown
returns-clause-grown c =
    let ready = in_shape_ready c.args.self.now c.args.area.now (c.in_ok-handed_in.ensures.shape refl) in
    rw c.step.ensures.floor
    (step_grows (state_of c.args.self.now c.args.area.now) c.in_ok-action.field-0 c.step.result ready.desks c.step.ensures.answer c.step.ensures.sized)

pub returns-clause-shape : goal.returns-clause-shape
returns-clause-shape c =
    λ _.
    rw (c.step.ensures.floor, c.step.ensures.area)
    (step_in_shape c.args.self.now c.args.area.now c.in_ok-action.field-0 (c.in_ok-handed_in.ensures.shape refl))
