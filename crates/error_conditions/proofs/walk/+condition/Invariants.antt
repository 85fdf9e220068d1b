use Rattle.std.proofs.Common.{◌≡◌, drop, flat_map, map, take}
use Rattle.noted_refusals.specs.inner.Noted.{noting}
use Rattle.error_conditions.specs.Conditions.{condition_refusals, pair_of}
use Rattle.error_conditions.specs.inner.Sides.{at_side}
use Rattle.error_conditions.proofs.walk.+condition.Given as goal

abbrev pub invariant-causes_of-loop-part : goal.invariant-causes_of-loop-part
invariant-causes_of-loop-part g l = record {
  kept : l.reading.types ≡ l.fn.reading.types;
  causes : l.causes ≡ map (at_side l.side) (map (pair_of (g.A.Atoms.meaning l.atoms l.fn.reading.types)) (take l.part-index l.parts));
  first : noting l.reading.refusals (flat_map (condition_refusals l.fn.reading.types.profile (g.A.Atoms.faults l.atoms l.fn.reading.types)) (drop l.part-index l.parts)) ≡ noting l.fn.reading.refusals (flat_map (condition_refusals l.fn.reading.types.profile (g.A.Atoms.faults l.atoms l.fn.reading.types)) l.parts);
}
