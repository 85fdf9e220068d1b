use Rattle.std.proofs.Common.{◌∙◌, ◌+◌, List, ℕ, refl, subst, sym, arith}
use Rattle.cut_reports.specs.inner.Counts.{AddedAt}
use Rattle.cut_reports.specs.inner.Diagram.{IsSpread}
use Rattle.cut_reports.proofs.Spreading.{spread_first, spread_last}
use Rattle.cut_reports.proofs.diagram.uses_of.Goals as goal

pub returns-clause-uses : goal.returns-clause-uses
returns-clause-uses c =
    let root = c.args.family.position in
    let added = subst (λ (l : List ℕ). AddedAt root 1 l c.add_at.new.counts.items) c.in-Ok.ensures.counts c.add_at.ensures.added in
    let first = spread_first c.args.store.now root c.add_at.new.counts.items c.in-Ok-no_counts.uses.items (root + 1) c.args.events c.in-Ok-no_counts.ensures.counts added (omega arith) in
    let spread = c.if-not-spread_all.ensures.spread refl root (subst (IsSpread c.args.store.now root c.in-Ok-no_counts.uses.items c.add_at.new.counts.items) (sym (c.add_at.ensures.count ∙ c.in-Ok.ensures.count)) first) in
    spread_last c.args.store.now root spread.0 c.spread_all.new.weights.items c.spread_all.new.uses.items c.laws.ensures spread.1 spread.2
