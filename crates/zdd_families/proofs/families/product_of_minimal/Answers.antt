use Rattle.zdd_families.proofs.Products.{product_answered}
use Rattle.zdd_families.proofs.families.product_of_minimal.Goals as goal

pub returns : goal.returns
returns c =
    product_answered c.args.store.now c.minimal_sets.new.store c.minimal_sets-2.new.store c.kept_product.new.store c.note_minimal.new.store c.args.a c.args.b c.in_ok-first.first c.in_ok-second.second c.in_ok-answer.answer c.note_minimal.result
    c.args.most _ _ _ c.requires.b_in c.minimal_sets.ensures.kept c.minimal_sets-2.ensures.kept c.kept_product.ensures.kept
    c.in_ok-first.ensures.answer c.in_ok-second.ensures.answer c.in_ok-answer.ensures.answer c.note_minimal.ensures.same c.note_minimal.ensures.id
