use Rattle.std.proofs.Common.{◌++◌, ap, ◌∙◌}
use Rattle.noted_refusals.specs.inner.Noted.{noting}
use Rattle.aadl_syntax.specs.declared.error_model.UserPath.{UserPath}
use Rattle.noted_refusals.proofs.Loops.{noting-more}
use Rattle.propagation_links.specs.Refused.{path_end_refusals, path_refusals}
use Rattle.propagation_links.proofs.refused.note_paths.Goals as goal

pub loop-path-preserved : goal.loop-path-preserved
loop-path-preserved c =
    let pointed = c.args.pointed.now in
    let number = c.args.number in
    noting-more c.args.paths.now c.loop-path.path-index c.path-item.result c.loop-path-test.true c.path-item.is (path_refusals pointed number) c.loop-path.refusals c.note_path.new.refusals _
    (c.note_path.ensures ∙ ap (λ (path : UserPath). noting c.loop-path.refusals (path_end_refusals pointed number path.from ++ path_end_refusals pointed number path.to)) c.item.ensures) c.loop-path.invariant
