use Rattle.std.proofs.Common.{◌≡◌, drop, flat_map, true}
use Rattle.noted_refusals.specs.inner.Noted.{noting}
use Rattle.plain_values.specs.declared.refusal.Code.TheVariants.{Mapping}
use Rattle.plain_values.specs.Refusal.{refused_so}
use Rattle.error_flows.proofs.flows.note_mappings.Given as goal

abbrev pub invariant-loop-spot : goal.invariant-loop-spot
invariant-loop-spot l =
    noting l.refusals (flat_map (refused_so true Mapping) (drop l.spot-index l.mappings)) ≡ noting l.fn.refusals (flat_map (refused_so true Mapping) l.mappings)
