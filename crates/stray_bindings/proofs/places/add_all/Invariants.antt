use Rattle.std.proofs.Common.{◌≡◌, ◌||◌, take}
use Rattle.std.specs.HashSet.{contains}
use Rattle.std.specs.List.{list_any}
use Rattle.stray_bindings.specs.Stray.{is_wire}
use Rattle.stray_bindings.specs.inner.Tables.{WireKey, same_wire}
use Rattle.stray_bindings.proofs.places.add_all.Given as goal

abbrev pub invariant-loop-member : goal.invariant-loop-member
invariant-loop-member l = (key : WireKey) → contains same_wire l.wires key ≡ contains same_wire l.fn.wires key || list_any (is_wire (key.0, key.1.now) l.number) (take l.member-index l.members)
