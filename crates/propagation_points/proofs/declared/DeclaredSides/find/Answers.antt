use Rattle.std.proofs.Common.{ap, sym, ◌∙◌, option_and_then, slice_get}
use Rattle.package_index.proofs.KnowsLaws.{find-place}
use Rattle.propagation_points.specs.Points.{declares}
use Rattle.propagation_points.proofs.declared.DeclaredSides.find.Goals as goal

pub returns-in-Some : goal.returns-in-Some
returns-in-Some c =
    let items = c.args.self.now.items in
    c.item.ensures ∙ ap (option_and_then (slice_get items)) (sym c.in-Some.is ∙ c.place.ensures) ∙ sym (find-place (declares c.args.outward c.args.name.now) items)

pub returns-in-None : goal.returns-in-None
returns-in-None c =
    let items = c.args.self.now.items in
    ap (option_and_then (slice_get items)) (sym c.in-None.is ∙ c.place.ensures) ∙ sym (find-place (declares c.args.outward c.args.name.now) items)
