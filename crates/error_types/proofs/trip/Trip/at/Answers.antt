use Rattle.std.proofs.Common.{arith, ◌∷◌, map, ap}
use Rattle.std.specs.HashMap.{get}
use Rattle.std.specs.Map.{lookup}
use Rattle.std.specs.Prelude.{reverse}
use Rattle.std.proofs.lemmas.Grind.{common_steps}
use Rattle.package_index.specs.inner.Tables.{same_pair}
use Rattle.error_libraries.specs.declared.id.ItemId.{ItemId}
use Rattle.error_libraries.specs.inner.Tables.{has_number}
use Rattle.error_libraries.proofs.MarkLaws.{marks-first}
use Rattle.error_types.proofs.trip.Trip.at.Goals as goal

pub invariant_of-result : goal.invariant_of-result
invariant_of-result c = (
  marks-first (λ (item : ItemId) key. has_number key item) c.args.item c.new-2.result.items (c.args.item ∷ map (λ visit. visit.item) (reverse c.new.result.items)) (get same_pair c.new-marks.result) (get same_pair c.insert.new.self)
      c.new-2.ensures.items (λ i. c.args.item ∷ map (λ visit. visit.item) (reverse (c.new.ensures.items i))) (λ key. ap (lookup (same_pair key)) c.new-marks.ensures.empty) c.in_ok-insert.ensures.updates.0,
  grind (arith, common_steps, c.new.ensures.items),
)
