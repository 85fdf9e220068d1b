use Rattle.package_index.specs.Lookup.{package_of}
use Rattle.package_index.proofs.Gathering.{gathered-step}
use Rattle.package_index.proofs.index.add_file.Goals as goal

pub loop-unit-preserved : goal.loop-unit-preserved
loop-unit-preserved c =
    gathered-step package_of c.args.units.now c.loop-unit.unit-index c.unit-item.result _ _ _ _ _ _ c.loop-unit-test.true c.unit-item.is c.loop-unit.invariant c.in_ok-add_unit.ensures
