use Rattle.std.proofs.Common.{true, get_or}
use Rattle.std.proofs.lemmas.List.{get_or_default}
use Rattle.plain_values.specs.declared.spot.Spot.{Spot}
use Rattle.plain_values.specs.declared.refusal.Code.TheVariants.{Mapping}
use Rattle.plain_values.specs.Refusal.{refused_so}
use Rattle.noted_refusals.proofs.Loops.{noting-more}
use Rattle.error_flows.proofs.flows.note_mappings.Goals as goal

pub loop-spot-preserved : goal.loop-spot-preserved
loop-spot-preserved c =
    let spots = c.args.mappings.now in
    let i = c.loop-spot.spot-index in
    let spot : Spot = get_or spots i (record { file = 0; at = 0 }) in
    noting-more spots i spot c.loop-spot-test.true (get_or_default spots i _ spot c.loop-spot-test.true) (refused_so true Mapping) c.loop-spot.refusals _ _ c.note_if.ensures c.loop-spot.invariant
