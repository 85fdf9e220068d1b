use Rattle.std.proofs.Common.{◌≡◌, false, map, take}
use Rattle.std.specs.List.{list_any}
use Rattle.rate_keys.specs.Keys.{names_event}
use Rattle.rate_keys.proofs.names.EventNames.+condition.Given as goal

abbrev pub invariant-name_event-loop-part : goal.invariant-name_event-loop-part
invariant-name_event-loop-part l = list_any (λ part. part) (map (names_event l.self) (take l.part-index l.parts)) ≡ false
