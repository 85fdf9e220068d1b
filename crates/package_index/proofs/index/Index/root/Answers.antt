use Rattle.std.proofs.Common.{IfOk, IsSome, None, option_copied, ap, subst, sym, ◌∙◌}
use Rattle.plain_values.specs.declared.refusal.Place.TheVariants.{Words}
use Rattle.package_index.specs.Lookup.{decl_of, refused_at}
use Rattle.package_index.proofs.FoundLaws.{found-there}
use Rattle.package_index.proofs.index.Index.root.Goals as goal

pub returns-clause-declared : goal.returns-clause-declared
returns-clause-declared c =
    subst (λ found. IfOk found (λ id. IsSome (decl_of c.args.self.now id))) (sym (c.refused_at.ensures ∙ ap (refused_at Words) c.look_classifier-found.ensures)) (found-there c.args.self.now Words None c.items.result.now (option_copied c.bytes_of.result))
