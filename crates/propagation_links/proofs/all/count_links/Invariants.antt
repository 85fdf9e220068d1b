use Rattle.std.proofs.Common.{◌≡◌, ◌≤◌, ◌*◌, ◌^◌, ◌∷◌, [], length, sum, take}
use Rattle.instantiator.specs.Whole.{effective_in}
use Rattle.plain_values.specs.Numbered.{numbered_from}
use Rattle.propagation_links.specs.Refused.{count_in}
use Rattle.propagation_links.proofs.all.count_links.Given as goal

abbrev pub invariant-loop-number : goal.invariant-loop-number
invariant-loop-number l = record {
  within : l.number ≤ length l.pointed.instance.components;
  count : l.count ≡ sum (numbered_from (λ number component. count_in (effective_in l.pointed.instance number) ∷ []) 0 (take l.number l.pointed.instance.components));
  few : l.count ≤ l.number * 2 ^ 33;
}
