use Rattle.std.proofs.Common.{[], ◌∷◌, map, sym, ap, ◌∙◌, arith}
use Rattle.std.specs.HashMap.{get}
use Rattle.std.specs.List.{list_any}
use Rattle.std.specs.Prelude.{reverse}
use Rattle.std.proofs.lemmas.Grind.{common_steps}
use Rattle.std.proofs.lemmas.List.{reverse-append}
use Rattle.package_index.specs.inner.Tables.{same_pair}
use Rattle.error_libraries.specs.declared.id.ItemId.{ItemId}
use Rattle.error_libraries.specs.inner.Tables.{has_number}
use Rattle.error_libraries.proofs.Keys.{number_same}
use Rattle.error_libraries.proofs.MarkLaws.{marks-entered}
use Rattle.error_types.proofs.trip.Trip.enter.Goals as goal

pub invariant_of-result : goal.invariant_of-result
invariant_of-result c =
    let id = c.args.item in
    let below = ap reverse c.in_ok-push.ensures.items ∙ reverse-append c.self.inside.below.items (c.self.inside.top ∷ []) in (
      marks-entered (λ (item : ItemId) key. has_number key item) id c.self.inside.followed.items _ (id ∷ map (λ visit. visit.item) (reverse c.push.new.self.items)) (get same_pair c.self.inside.marks) (get same_pair c.insert.new.self)
          (λ i. id ∷ map (λ visit. visit.item) (below i)) c.in_ok-insert.ensures.updates.0
          (λ key same. ap (λ k. list_any (has_number k) c.self.inside.followed.items) (sym (number_same (id.«package», id.item) key same)) ∙ ap (λ trip. list_any (has_number (id.«package», id.item)) trip.followed) c.self.view_is ∙ c.requires) c.self.invariant.0,
      grind (arith, common_steps, c.in_ok-push.ensures.items, c.if-len-ge4294967295.false),
    )
