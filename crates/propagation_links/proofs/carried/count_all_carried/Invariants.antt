use Rattle.std.proofs.Common.{◌≡◌, ◌≤◌, ◌*◌, ◌^◌, length, map, sum, take}
use Rattle.propagation_links.specs.Refused.{count_carried}
use Rattle.propagation_links.proofs.carried.count_all_carried.Given as goal

abbrev pub invariant-loop-one : goal.invariant-loop-one
invariant-loop-one l = record {
  within : l.one-index ≤ length l.carried;
  count : l.count ≡ sum (map count_carried (take l.one-index l.carried));
  few : l.count ≤ l.one-index * 2 ^ 32;
}
