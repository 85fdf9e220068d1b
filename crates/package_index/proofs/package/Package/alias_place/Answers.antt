use Rattle.std.proofs.Common.{ap, ◌∙◌, position}
use Rattle.package_index.specs.Lookup.{is_alias}
use Rattle.package_index.proofs.package.Package.alias_place.Goals as goal

pub returns : goal.returns
returns c =
    c.copied.ensures ∙ c.get.ensures.value ∙ c.self.invariant.1 (c.args.of_package, c.args.name) ∙ ap (λ unit. position (is_alias c.args.of_package c.args.name.now) unit.aliases) c.self.view_is
