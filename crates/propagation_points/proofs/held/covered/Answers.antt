use Rattle.std.proofs.Common.{ap, sym, ◌∙◌, ◌++◌, get_or}
use Rattle.std.proofs.lemmas.List.{get_or_default}
use Rattle.package_index.proofs.Loops.{numbered-more}
use Rattle.propagation_points.specs.States.{covered_variant}
use Rattle.propagation_points.proofs.held.covered.Goals as goal

pub loop-place-preserved : goal.loop-place-preserved
loop-place-preserved c =
    let give = covered_variant c.args.reach.now c.args.first in
    let types = c.args.types.now in
    let place = c.loop-place.place in
    c.in_ok-add_covered.ensures ∙ ap (λ had. had ++ give place (get_or types place 0)) c.loop-place.invariant
    ∙ sym (numbered-more give types place (get_or types place 0) c.loop-place-test.true (get_or_default types place 0 (get_or types place 0) c.loop-place-test.true))
