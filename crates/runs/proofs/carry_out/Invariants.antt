use Rattle.std.proofs.Common.{◌≡◌, ◌≤◌, ◌+◌, ◌-◌, None, true}
use Rattle.rules.specs.NewSources.{sum, desk_sizes}
use Rattle.floors.specs.Floors.{in_shape}
use Rattle.runs.specs.Runs.{asked_from, begun, went_on}
use Rattle.runs.proofs.carry_out.Given as goal

-- what is left of the run goes on from what the floor and the area hold
abbrev pub invariant-loop-k : goal.invariant-loop-k
invariant-loop-k l =
    record {
      shape : in_shape l.floor l.area ≡ true;
      few : l.new_sources ≤ l.k;
      left : went_on (begun l.fn.floor l.fn.area) (asked_from l.sequence 0 l.end)
          ≡ went_on (record { ran = record { count = l.k; new_sources = l.new_sources; refusal = None }; floor = l.floor; area = l.area }) (asked_from l.sequence l.k (l.end - l.k));
      kept : l.k ≡ 0 → (l.floor ≡ l.fn.floor) × (l.area ≡ l.fn.area);
      grown : sum desk_sizes l.floor.desks ≡ sum desk_sizes l.fn.floor.desks + l.new_sources;
    }
