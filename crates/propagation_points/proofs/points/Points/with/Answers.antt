use Rattle.std.proofs.Common.{◌≡◌, length, None, Some, cond, is_some, subst, sym, ap, ◌∙◌}
use Rattle.std.specs.HashMap.{get}
use Rattle.package_index.specs.inner.Tables.{same_text}
use Rattle.propagation_points.specs.Points.{place_named}
use Rattle.propagation_points.specs.inner.Tables.{KnowsNames}
use Rattle.propagation_points.proofs.PlaceLaws.{named-more, none-of}
use Rattle.propagation_points.proofs.points.Points.with.Goals as goal

pub invariant_of-result : goal.invariant_of-result
invariant_of-result c =
    let points = c.self.inside.list in
    let name : c.text-name.result.now ≡ c.args.point.name = c.text-name.ensures.text ∙ c.name.ensures in
    let none : place_named points c.args.point.name ≡ None = none-of _ (ap (λ text. is_some (place_named points text)) (sym name) ∙ (ap is_some (sym (c.place.ensures ∙ ap (λ all. place_named all c.text-name.result.now) (sym c.self.view_is))) ∙ (sym c.is_some.ensures ∙ c.if-is_some.false))) in
    subst (λ all. KnowsNames (λ point. point.name) all (get same_text c.insert.new.self)) (sym c.in_ok-push.ensures.ok)
    (named-more (λ point. point.name) points c.args.point c.text-name.result (get same_text c.self.inside.places) name c.self.invariant none (get same_text c.insert.new.self)
    (λ key. c.in_ok-insert.ensures.updates.0 key ∙ ap (λ n. cond (same_text c.text-name.result key) (Some n) (get same_text c.self.inside.places key)) (ap length c.items.ensures.items)))
