use Rattle.std.proofs.Common.{◌≡◌, map, take}
use Rattle.error_machines.specs.States.{states_of}
use Rattle.error_models.proofs.tree.all_states.Given as goal

abbrev pub invariant-loop-machine : goal.invariant-loop-machine
invariant-loop-machine l = record {
  kept : l.types ≡ l.fn.types;
  states : l.states ≡ map (states_of l.fn.types) (take l.machine-index l.machines);
}
