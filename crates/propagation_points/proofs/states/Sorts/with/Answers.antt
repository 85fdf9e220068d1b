use Rattle.std.proofs.Common.{◌≡◌, ◌++◌, ◌∷◌, [], length, None, Some, cond, is_some, subst, sym, ap, ◌∙◌}
use Rattle.std.proofs.lemmas.Grind.{flat_map-append}
use Rattle.std.proofs.lemmas.List.{append-nil}
use Rattle.std.specs.HashMap.{get}
use Rattle.package_index.specs.inner.Tables.{same_text}
use Rattle.propagation_points.specs.States.{Sort, all_variants, place_of_sort, variants_named, variants_of}
use Rattle.propagation_points.specs.inner.Tables.{KnowsNames}
use Rattle.propagation_points.proofs.PlaceLaws.{named-more, none-of}
use Rattle.propagation_points.proofs.states.Sorts.with.Goals as goal

pub invariant_of-result : goal.invariant_of-result
invariant_of-result c =
    let sorts = c.self.inside.list in
    let text : c.text-text.result.now ≡ c.args.name.now = c.text-text.ensures.text in
    let none : place_of_sort sorts c.args.name.now ≡ None = none-of _ (ap (λ name. is_some (place_of_sort sorts name)) (sym text) ∙ (ap is_some (sym (c.place.ensures ∙ ap (λ all. place_of_sort all c.text-text.result.now) (sym c.self.view_is))) ∙ (sym c.is_some.ensures ∙ c.if-is_some.false))) in
    let sort : Sort = record { name = c.args.name.now; first = c.in_ok-first.first; types = c.args.types } in
    let pushed : c.push.new.self ≡ sorts ++ sort ∷ [] = c.in_ok-push.ensures.ok in (
      subst (λ all. KnowsNames (λ (each : Sort). each.name) all (get same_text c.insert.new.self)) (sym pushed)
          (named-more (λ (each : Sort). each.name) sorts sort c.text-text.result (get same_text c.self.inside.places) text c.self.invariant.0 none (get same_text c.insert.new.self)
          (λ key. c.in_ok-insert.ensures.updates.0 key ∙ ap (λ n. cond (same_text c.text-text.result key) (Some n) (get same_text c.self.inside.places key)) (ap length c.items-2.ensures.items))),
      c.in_ok-add_variants.ensures ∙ ap (λ had. had ++ variants_named c.args.name.now c.args.types) c.self.invariant.1
          ∙ sym (ap all_variants pushed ∙ flat_map-append variants_of sorts (sort ∷ []) ∙ ap (λ more. all_variants sorts ++ more) (append-nil (variants_of sort))),
    )
