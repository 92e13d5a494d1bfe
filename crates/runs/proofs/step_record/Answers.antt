use Rattle.floors.specs.Floors.{state_of}
use Rattle.floors.proofs.Shapes.{in_shape_waiting, in_shape_ready, step_in_shape}
use Rattle.floors.proofs.Growth.{step_grows}
use Rattle.runs.proofs.step_record.Goals as goal

pub step-requires-clause-ready : goal.step-requires-clause-ready
step-requires-clause-ready c = in_shape_ready c.args.floor.now c.args.area.now c.requires.shape

pub step-requires-clause-waiting : goal.step-requires-clause-waiting
step-requires-clause-waiting c = in_shape_waiting c.args.floor.now c.args.area.now c.requires.shape

pub returns-clause-shape : goal.returns-clause-shape
returns-clause-shape c =
    rw (c.step.ensures.floor, c.step.ensures.area) (step_in_shape c.args.floor.now c.args.area.now c.in_ok-action.action c.requires.shape)

pub returns-clause-grown : goal.returns-clause-grown
returns-clause-grown c =
    rw c.step.ensures.floor
    (step_grows (state_of c.args.floor.now c.args.area.now) c.in_ok-action.action c.step.result (in_shape_ready c.args.floor.now c.args.area.now c.requires.shape).desks c.step.ensures.answer c.step.ensures.sized)
