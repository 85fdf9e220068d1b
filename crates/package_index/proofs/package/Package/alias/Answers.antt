use Rattle.std.proofs.Common.{ap, sym, ◌∙◌, option_map, option_and_then, slice_get}
use Rattle.package_index.specs.Lookup.{is_alias}
use Rattle.package_index.proofs.KnowsLaws.{find-place}
use Rattle.package_index.proofs.package.Package.alias.Goals as goal

pub returns-in-Some : goal.returns-in-Some
returns-in-Some c =
    let aliases = c.args.self.now.aliases in
    c.alias_names.ensures ∙ ap (λ place. option_map (λ alias. alias.names) (option_and_then (slice_get aliases) place)) (sym c.in-Some.is ∙ c.alias_place.ensures)
    ∙ ap (option_map (λ alias. alias.names)) (sym (find-place (is_alias c.args.of_package c.args.name.now) aliases))

pub returns-in-None : goal.returns-in-None
returns-in-None c =
    let aliases = c.args.self.now.aliases in
    ap (λ place. option_map (λ alias. alias.names) (option_and_then (slice_get aliases) place)) (sym c.in-None.is ∙ c.alias_place.ensures)
    ∙ ap (option_map (λ alias. alias.names)) (sym (find-place (is_alias c.args.of_package c.args.name.now) aliases))
