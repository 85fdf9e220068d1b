use Rattle.std.proofs.Common.{[], ◌∷◌, map, sym, ap, ◌∙◌, ◌^◌}
use Rattle.std.specs.HashMap.{get}
use Rattle.std.specs.Prelude.{reverse}
use Rattle.std.proofs.lemmas.List.{reverse-append}
use Rattle.package_index.specs.inner.Tables.{same_pair}
use Rattle.error_libraries.specs.declared.id.ItemId.{ItemId}
use Rattle.error_libraries.specs.inner.Tables.{has_number}
use Rattle.error_libraries.proofs.MarkLaws.{fewer, marks-left}
use Rattle.error_types.proofs.trip.Trip.leave.Goals as goal

pub invariant_of-result : goal.invariant_of-result
invariant_of-result c =
    let below = ap reverse c.in-Some.ensures.items ∙ reverse-append c.pop.new.self.items (c.in-Some.next ∷ []) in (
      marks-left (λ (item : ItemId) key. has_number key item) c.top.inside.item c.self.inside.followed.items c.push.new.self.items _ (map (λ visit. visit.item) (c.in-Some.next ∷ reverse c.pop.new.self.items)) (get same_pair c.self.inside.marks) (get same_pair c.insert.new.self)
          c.in_ok-push.ensures.items (λ i. sym (ap (λ visit. visit.item) c.top.view_is) i ∷ map (λ visit. visit.item) (below i)) c.in_ok-insert.ensures.updates.0 c.self.invariant.0,
      fewer (2 ^ 32) c.self.inside.below.items c.pop.new.self.items c.in-Some.next c.in-Some.ensures.items c.self.invariant.1,
    )
