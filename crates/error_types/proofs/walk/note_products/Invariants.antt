use Rattle.std.proofs.Common.{◌≡◌, drop, flat_map}
use Rattle.plain_values.specs.Order.{least, nearer}
use Rattle.error_types.specs.Walk.{product_of_term}
use Rattle.error_types.proofs.walk.note_products.Given as goal

abbrev pub invariant-loop-term : goal.invariant-loop-term
invariant-loop-term l = nearer l.first (least (flat_map product_of_term (drop l.term-index l.terms))) ≡ nearer l.fn.first (least (flat_map product_of_term l.terms))
