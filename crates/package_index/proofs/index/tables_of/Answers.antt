use Rattle.std.proofs.Common.{flat_map, subst}
use Rattle.package_index.specs.Lookup.{package_of}
use Rattle.package_index.specs.inner.Tables.{Gathered}
use Rattle.package_index.proofs.Gathering.{gathered-step}
use Rattle.package_index.proofs.index.tables_of.Goals as goal

pub loop-file-preserved : goal.loop-file-preserved
loop-file-preserved c =
    let more = subst (λ units. Gathered c.loop-file.packages c.add_file.new.packages c.loop-file.refusals c.add_file.new.refusals (flat_map package_of units)) c.items.ensures.items c.in_ok-add_file.ensures in
    gathered-step (flat_map package_of) c.args.files.now c.loop-file.file-index c.file-item.result _ _ _ _ _ _ c.loop-file-test.true c.file-item.is c.loop-file.invariant more
