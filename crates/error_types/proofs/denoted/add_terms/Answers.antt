use Rattle.std.proofs.Common.{[], ◌++◌, flat_map, take, refl, ap, ◌∙◌, subst}
use Rattle.plain_values.specs.Order.{nearer}
use Rattle.package_index.proofs.Loops.{gathered-more}
use Rattle.error_types.specs.inner.Rows.{Adds, Remembers, row_of}
use Rattle.error_types.specs.Walk.{term_first, term_types}
use Rattle.error_types.proofs.TermLaws.{terms-more}
use Rattle.error_types.proofs.denoted.add_terms.Goals as goal

pub loop-term-preserved : goal.loop-term-preserved
loop-term-preserved c =
    let terms = c.args.terms.now in
    let table = c.args.declarations.now in
    let scope = c.args.scope.now in
    let term = c.term-item.result in
    let i = c.loop-term.term-index in
    let kept = c.loop-term.invariant.kept in
    let so_far = flat_map (term_types table scope) (take i terms) in
    let adds = subst (λ t. Adds t c.loop-term.gathered.row c.add_term.new.gathered.row (term_types t scope term)) kept c.in_ok-add_term.ensures.row in
    record {
      kept = c.add_term.ensures.kept ∙ kept;
      memory = subst (λ t. Remembers t c.add_term.new.memory) kept c.add_term.ensures.memory;
      row =
          adds so_far c.loop-term.invariant.row
          ∙ ap (row_of table) (gathered-more terms i term c.loop-term-test.true c.term-item.is (term_types table scope) [] so_far (so_far ++ term_types table scope term) refl refl);
      first =
          terms-more table scope terms i term c.loop-term-test.true c.term-item.is c.loop-term.gathered.first c.add_term.new.gathered.first _
          (c.in_ok-add_term.ensures.first ∙ ap (λ t. nearer c.loop-term.gathered.first (term_first t scope term)) kept) c.loop-term.invariant.first;
    }
