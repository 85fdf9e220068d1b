use Rattle.std.proofs.Common.{◌≡◌, drop, map, take}
use Rattle.error_machines.specs.Machines.{find_machine}
use Rattle.error_models.specs.Below.{machine_of}
use Rattle.error_models.specs.Refused.{fault_of, first_of}
use Rattle.error_models.proofs.machines.machines_of.Given as goal

abbrev pub invariant-loop-kind : goal.invariant-loop-kind
invariant-loop-kind l = record {
  machines : l.machines ≡ map (λ kind. machine_of l.instance.packages kind.effective) (take l.kind-index l.kind-items);
  left : first_of (map (λ kind. fault_of (find_machine l.instance.packages kind.effective)) (drop l.kind-index l.kind-items)) ≡ first_of (map (λ kind. fault_of (find_machine l.instance.packages kind.effective)) l.kind-items);
}
