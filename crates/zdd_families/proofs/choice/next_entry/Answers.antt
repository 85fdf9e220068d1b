use Rattle.zdd_families.proofs.Products.{entry_answered}
use Rattle.zdd_families.proofs.choice.next_entry.Goals as goal

pub returns : goal.returns
returns c =
    entry_answered c.args.store.now c.kept_product.new.store c.kept_union.new.store c.args.part c.args.below c.args.here c.in_ok-with.with c.args.most _ _ c.kept_union.result
    c.requires.here_is.found c.kept_product.ensures.kept c.in_ok-with.ensures.answer c.kept_union.ensures
