use Rattle.std.proofs.Common.{◌≡◌, ◌++◌, ℕ, List, codes, flat_map, take}
use Rattle.unread_parts.proofs.root.push_package.Given as goal

abbrev pub invariant-loop-part : goal.invariant-loop-part
invariant-loop-part l = l.text.items ≡ l.fn.text.items ++ flat_map (λ (part : List ℕ). part ++ codes "::") (take l.part-index l.names)
