use Rattle.std.proofs.Common.{◌++◌, append_assoc, sym, ap, take, ◌∙◌}
use Rattle.plain_values.specs.Numbered.{numbered_from}
use Rattle.package_index.proofs.Loops.{numbered-more}
use Rattle.propagation_links.specs.Unlinked.{told_connection}
use Rattle.propagation_links.proofs.unlinked.add_connections.Goals as goal

pub loop-place-preserved : goal.loop-place-preserved
loop-place-preserved c =
    let told = told_connection c.args.pointed.now c.args.number in
    let all = c.args.connections.now in
    let place = c.loop-place.place in
    let one = c.index-connections-place.result in
    c.in_ok-add_unlinked.ensures ∙ (λ i. c.loop-place.invariant i ++ told place one) ∙ append_assoc c.args.found.now (numbered_from told 0 (take place all)) (told place one)
    ∙ ap (λ rest. c.args.found.now ++ rest) (sym (numbered-more told all place one c.loop-place-test.true c.index-connections-place.is))
