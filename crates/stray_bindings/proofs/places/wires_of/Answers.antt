use Rattle.std.proofs.Common.{◌<◌, ◌≤◌, ap, ◌∙◌, length, arith}
use Rattle.std.specs.HashSet.{contains}
use Rattle.std.specs.List.{list_any}
use Rattle.std.proofs.lemmas.List.{take_all}
use Rattle.plain_values.specs.Numbered.{numbered_from}
use Rattle.stray_bindings.specs.Stray.{is_wire_in}
use Rattle.stray_bindings.specs.inner.Tables.{same_wire}
use Rattle.stray_bindings.proofs.Wires.{wires-more}
use Rattle.stray_bindings.proofs.places.wires_of.Goals as goal

pub loop-number-preserved : goal.loop-number-preserved
loop-number-preserved c key =
    let instance = c.args.instance.now in
    let long = ap length c.components-number-end.ensures.components in
    let within : c.loop-number.number < length instance.components = omega (arith, long, c.loop-number-test.true) in
    wires-more instance (key.0, key.1.now) c.loop-number.number within (contains same_wire c.loop-number.wires key) (contains same_wire c.add_component.new.wires key) (c.loop-number.invariant key) (c.in_ok-add_component.ensures key)

pub returns : goal.returns
returns c key =
    let instance = c.args.instance.now in
    let long = ap length c.components-number-end.ensures.components in
    let past : length instance.components ≤ c.loop-number.number = omega (arith, long, c.loop-number-test.false) in
    c.loop-number.invariant key ∙ ap (λ all. list_any (λ found. found) (numbered_from (is_wire_in (key.0, key.1.now) instance) 0 all)) (take_all c.loop-number.number instance.components past)
