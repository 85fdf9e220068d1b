use Rattle.std.proofs.Common.{◌++◌, append_assoc, sym, ap, take, ◌∙◌}
use Rattle.plain_values.specs.Numbered.{numbered_from}
use Rattle.aadl_syntax.specs.declared.error_model.UserPath.{UserPath}
use Rattle.package_index.proofs.Loops.{numbered-more}
use Rattle.propagation_links.specs.Unlinked.{told_path, told_user_path}
use Rattle.propagation_links.proofs.unlinked.add_paths.Goals as goal

pub loop-place-preserved : goal.loop-place-preserved
loop-place-preserved c =
    let pointed = c.args.pointed.now in
    let told = told_path pointed c.args.number in
    let all = c.args.paths.now in
    let place = c.loop-place.place in
    let one = c.index-paths-place.result in
    let adds = c.in_ok-add_unlinked_path.ensures ∙ ap (λ (path : UserPath). c.loop-place.found ++ told_user_path pointed c.args.number place path) c.item.ensures in
    adds ∙ (λ i. c.loop-place.invariant i ++ told place one) ∙ append_assoc c.args.found.now (numbered_from told 0 (take place all)) (told place one)
    ∙ ap (λ rest. c.args.found.now ++ rest) (sym (numbered-more told all place one c.loop-place-test.true c.index-paths-place.is))
