use Rattle.std.proofs.Common.{◌≡◌, ◌^◌, ◌-◌}
use Rattle.component_extension.specs.Chain.{chain_from, chain_of}
use Rattle.component_extension.proofs.chain.chain_of.Given as goal

abbrev pub invariant-loop : goal.invariant-loop
invariant-loop l = chain_from (2 ^ 64 - l.counter) l.index l.walked l.next ≡ chain_of l.index l.fn.id
