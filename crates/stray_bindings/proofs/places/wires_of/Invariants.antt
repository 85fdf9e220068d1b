use Rattle.std.proofs.Common.{◌≡◌, take}
use Rattle.std.specs.HashSet.{contains}
use Rattle.std.specs.List.{list_any}
use Rattle.plain_values.specs.Numbered.{numbered_from}
use Rattle.stray_bindings.specs.Stray.{is_wire_in}
use Rattle.stray_bindings.specs.inner.Tables.{WireKey, same_wire}
use Rattle.stray_bindings.proofs.places.wires_of.Given as goal

abbrev pub invariant-loop-number : goal.invariant-loop-number
invariant-loop-number l = (key : WireKey) → contains same_wire l.wires key
    ≡ list_any (λ found. found) (numbered_from (is_wire_in (key.0, key.1.now) l.instance) 0 (take l.number l.instance.components))
