use Rattle.std.proofs.Common.{◌≡◌, ◌-◌, None}
use Rattle.runs.specs.Runs.{asked_from}
use Rattle.holds.specs.Sequences.{begun, went_on}
use Rattle.holds.proofs.Hold.take_all.Given as goal

-- what is left of the sequence goes on from what the hold and the area are
abbrev pub invariant-loop-k : goal.invariant-loop-k
invariant-loop-k l =
    went_on (begun (record { hold = l.fn.self; area = l.fn.area })) (asked_from l.sequence 0 l.whole)
    ≡ went_on (record { taken = record { count = l.k; refusal = None }; left = record { hold = l.self; area = l.area } }) (asked_from l.sequence l.k (l.whole - l.k))
