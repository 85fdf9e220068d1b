use Rattle.std.proofs.Common.{sym, ap, ◌∙◌, ◌++◌}
use Rattle.component_extension.specs.Members.{declared_by}
use Rattle.package_index.proofs.Loops.{numbered-more}
use Rattle.component_extension.proofs.members.declarations.Goals as goal

pub loop-level-preserved : goal.loop-level-preserved
loop-level-preserved g c =
    let give = declared_by g.M.MemberKind.kind in
    c.in_ok-add_declared.ensures ∙ ap (λ front. front ++ give c.loop-level.level c.index-classifiers-level.result) c.loop-level.invariant
    ∙ sym (numbered-more give c.args.classifiers.now c.loop-level.level c.index-classifiers-level.result c.loop-level-test.true c.index-classifiers-level.is)
