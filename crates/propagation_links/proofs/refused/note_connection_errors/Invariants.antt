use Rattle.std.proofs.Common.{◌≡◌, drop, flat_map, true}
use Rattle.noted_refusals.specs.inner.Noted.{noting}
use Rattle.plain_values.specs.declared.refusal.Code.TheVariants.{ConnectionError}
use Rattle.plain_values.specs.Refusal.{refused_so}
use Rattle.propagation_links.proofs.refused.note_connection_errors.Given as goal

abbrev pub invariant-loop-spot : goal.invariant-loop-spot
invariant-loop-spot l =
    noting l.refusals (flat_map (refused_so true ConnectionError) (drop l.spot-index l.blocks)) ≡ noting l.fn.refusals (flat_map (refused_so true ConnectionError) l.blocks)
