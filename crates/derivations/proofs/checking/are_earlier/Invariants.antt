use Rattle.std.proofs.Common.{◌≡◌, drop, nat_lt}
use Rattle.std.specs.List.{list_all}
use Rattle.derivations.proofs.checking.are_earlier.Given as goal

abbrev pub invariant-loop-number : goal.invariant-loop-number
invariant-loop-number l =
    list_all (λ number. nat_lt number l.step) (drop l.number-index l.numbers) ≡ list_all (λ number. nat_lt number l.step) l.numbers
