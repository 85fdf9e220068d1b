use Rattle.std.proofs.Common.{IfOk, IsSome, Some, option_copied, ap, subst, sym, ◌∙◌}
use Rattle.package_index.specs.Lookup.{decl_of, refused_at}
use Rattle.package_index.proofs.FoundLaws.{found-there}
use Rattle.package_index.proofs.index.Index.find_classifier.Goals as goal

pub returns-clause-declared : goal.returns-clause-declared
returns-clause-declared c =
    subst (λ found. IfOk found (λ id. IsSome (decl_of c.args.self.now id))) (sym (c.refused_at.ensures ∙ ap (refused_at c.place.result) c.look_classifier-found.ensures)) (found-there c.args.self.now c.place.result (Some c.args.from) c.items.result.now (option_copied c.text_of.result))
