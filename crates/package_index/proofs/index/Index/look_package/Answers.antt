use Rattle.std.proofs.Common.{ap, sym, ◌∙◌, option_copied}
use Rattle.package_index.specs.Lookup.{declared_package, or_itself}
use Rattle.package_index.specs.inner.Names.{names_of}
use Rattle.package_index.proofs.index.Index.look_package.Goals as goal

pub returns-in-None : goal.returns-in-None
returns-in-None c =
    c.declared_package-in-None.ensures
    ∙ ap (λ alias. declared_package c.args.self.now (or_itself alias (names_of c.args.name))) (ap option_copied (sym c.in-None.is) ∙ c.package_alias.ensures)
