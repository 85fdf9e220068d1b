use Rattle.std.proofs.Common.{◌≡◌, ◌++◌, ◌∷◌, take}
use Rattle.std.specs.List.{flat_map}
use Rattle.fault_system.specs.Systems.{fact_name}
use Rattle.fmea_sheet.proofs.cells.put_names.Given as goal

abbrev pub invariant-loop-other : goal.invariant-loop-other
invariant-loop-other l = l.text.items ≡ l.initial.text.items ++ flat_map (λ other. 32 ∷ fact_name l.system other) (take l.other-index l.others)
