use Rattle.std.proofs.Common.{◌≡◌, ◌++◌, codes, flat_map, map, take}
use Rattle.model_review.proofs.lines.push_names.Given as goal

abbrev pub invariant-loop-name : goal.invariant-loop-name
invariant-loop-name l = l.text.items ≡ l.fn.text.items ++ flat_map (λ name. codes "." ++ name) (map (λ name. name.now) (take l.name-index l.names))
