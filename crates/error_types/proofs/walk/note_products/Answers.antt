use Rattle.package_index.proofs.Loops.{noting-more}
use Rattle.error_types.specs.Walk.{product_of_term}
use Rattle.error_types.proofs.walk.note_products.Goals as goal

pub loop-term-preserved : goal.loop-term-preserved
loop-term-preserved c =
    noting-more c.args.terms.now c.loop-term.term-index c.term-item.result c.loop-term-test.true c.term-item.is product_of_term c.loop-term.first _ _ c.note_product.ensures c.loop-term.invariant
