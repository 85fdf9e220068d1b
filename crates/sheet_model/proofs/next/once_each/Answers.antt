use Rattle.std.proofs.Common.{eqb, subst, sym, ◌∙◌}
use Rattle.std.specs.List.Sorted.{IsStrictlyIncreasing}
use Rattle.std.proofs.lemmas.List.Filters.{dedup_is}
use Rattle.std.proofs.lemmas.List.Sorted.{IsPermutation-sym}
use Rattle.std.proofs.lemmas.Map.Keys.{IsStrictlyIncreasing-dedup}
use Rattle.sheet_model.proofs.NextLaws.{same-kept}
use Rattle.sheet_model.proofs.next.once_each.Goals as goal

pub returns-clause-rising : goal.returns-clause-rising
returns-clause-rising c =
    subst IsStrictlyIncreasing (sym (c.in_ok-of.ensures.ok ∙ dedup_is eqb _ _ c.dedup.ensures.filtered))
    (IsStrictlyIncreasing-dedup c.sort.new.self.items c.in_ok-sort.ensures.sorted)

pub returns-clause-same : goal.returns-clause-same
returns-clause-same c =
    same-kept _ c.sort.new.self.items c.args.numbers.items (c.in_ok-of.ensures.ok ∙ dedup_is eqb _ _ c.dedup.ensures.filtered)
    c.in_ok-sort.ensures.permutation (IsPermutation-sym _ _ c.in_ok-sort.ensures.permutation)
