use Rattle.std.proofs.Common.{◌≡◌, ◌+◌, ◌-◌, ◌≤◌, drop, length}
use Rattle.std.specs.List.{prefix_len}
use Rattle.explained_calls.specs.inner.Texts.{is_name_byte}
use Rattle.explained_calls.proofs.named.name_front.Given as goal

abbrev pub invariant-loop-count : goal.invariant-loop-count
invariant-loop-count l = (prefix_len is_name_byte l.text ≡ l.count + prefix_len is_name_byte (drop l.count l.text)) × (l.count ≤ length l.text)

abbrev pub decreases-loop-count : goal.decreases-loop-count
decreases-loop-count l = length l.text - l.count
