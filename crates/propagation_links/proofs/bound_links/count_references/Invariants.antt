use Rattle.std.proofs.Common.{◌≡◌, ◌≤◌, ◌*◌, ◌^◌, length, map, sum, take}
use Rattle.propagation_links.specs.Refused.{count_bound}
use Rattle.propagation_links.proofs.bound_links.count_references.Given as goal

abbrev pub invariant-loop-bound : goal.invariant-loop-bound
invariant-loop-bound l = record {
  within : l.bound-index ≤ length l.bounds;
  count : l.count ≡ sum (map count_bound (take l.bound-index l.bounds));
  few : l.count ≤ l.bound-index * 2 ^ 32;
}
