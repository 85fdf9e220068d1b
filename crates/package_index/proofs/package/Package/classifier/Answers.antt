use Rattle.std.proofs.Common.{ap, ◌∙◌, position, option_copied}
use Rattle.package_index.specs.Lookup.{is_named}
use Rattle.package_index.proofs.package.Package.classifier.Goals as goal

pub returns : goal.returns
returns c =
    c.copied.ensures ∙ c.get.ensures.value ∙ c.self.invariant.0 (c.args.name, c.args.item) ∙ ap (λ unit. position (is_named c.args.name.now (option_copied c.args.item)) unit.decls) c.self.view_is
