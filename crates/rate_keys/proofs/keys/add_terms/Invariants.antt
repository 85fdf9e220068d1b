use Rattle.std.proofs.Common.{◌≡◌, ◌++◌, flat_map, take}
use Rattle.std.specs.Prelude.{option_copied}
use Rattle.rate_keys.specs.Keys.{term_keys}
use Rattle.rate_keys.proofs.keys.add_terms.Given as goal

abbrev pub invariant-loop-term : goal.invariant-loop-term
invariant-loop-term l = l.keys ≡ l.fn.keys ++ flat_map (term_keys l.point (option_copied l.event)) (take l.term-index l.terms)
