use Rattle.std.proofs.Common.{◌≡◌, drop}
use Rattle.std.specs.HashMap.{get}
use Rattle.round_gates.specs.declared.node.GateKey.{GateKey}
use Rattle.round_gates.specs.contracts.node.GateKeyPartialEq.TheImpl.{eq-value as key_eq}
use Rattle.round_gates.specs.inner.Reached.{first_some, place_from}
use Rattle.round_gates.proofs.reaching.places_of.Given as goal

abbrev pub invariant-loop-place : goal.invariant-loop-place
invariant-loop-place l = (key : GateKey) → first_some (get key_eq.it l.table key) (place_from l.place (drop l.place l.lines) key) ≡ place_from 0 l.lines key
