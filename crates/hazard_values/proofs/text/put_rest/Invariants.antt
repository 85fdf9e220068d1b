use Rattle.std.proofs.Common.{◌≡◌, ◌++◌, codes, flat_map, map, take}
use Rattle.hazard_values.specs.Texts.{item_text}
use Rattle.hazard_values.proofs.text.put_rest.Given as goal

abbrev pub invariant-loop-item : goal.invariant-loop-item
invariant-loop-item l = l.text ≡ l.fn.text ++ flat_map (λ other. codes "; " ++ other) (map item_text (take l.item-index l.items))
