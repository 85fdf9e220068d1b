use Rattle.std.proofs.Common.{◌≡◌, drop, flat_map, take}
use Rattle.noted_refusals.specs.inner.Noted.{noting}
use Rattle.propagation_points.specs.Settings.{state_refusals_in}
use Rattle.error_behavior.specs.Steps.{targets_of}
use Rattle.error_behavior.proofs.transitions.targets_of.Given as goal

abbrev pub invariant-loop-target : goal.invariant-loop-target
invariant-loop-target l = record {
  kept : l.reading.types ≡ l.fn.reading.types;
  numbers : l.numbers ≡ targets_of l.fn.reading.types l.setting (take l.target-index l.targets);
  first : noting l.reading.refusals (flat_map (state_refusals_in l.fn.reading.types l.setting) (drop l.target-index l.targets)) ≡ noting l.fn.reading.refusals (flat_map (state_refusals_in l.fn.reading.types l.setting) l.targets);
}
