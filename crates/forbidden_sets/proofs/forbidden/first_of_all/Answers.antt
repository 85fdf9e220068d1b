use Rattle.std.proofs.Common.{[], arith}
use Rattle.requirement_names.specs.declared.named.SetSentence.TheVariants.{Never}
use Rattle.requirement_verdicts.specs.Verdicts.{IsForbidden}
use Rattle.forbidden_sets.specs.inner.Families.{IsOther}
use Rattle.forbidden_sets.proofs.Firsts.{found-ok, minimal-short, no-parts}
use Rattle.forbidden_sets.proofs.forbidden.first_of_all.Goals as goal

pub returns-clause-first : goal.returns-clause-first
returns-clause-first c =
    let system = c.args.judged.now.system.now in
    let target = c.args.judged.now.slice.now.target in
    found-ok system target (IsOther [] c.events-most.result) (IsForbidden Never) (λ set minimal such. tt)
    (λ set minimal such. (no-parts set, (let short = minimal-short system target set minimal in let count = c.events-most.ensures.count in omega (arith, short, count)))) c.first_other.result c.first_other.ensures.first
