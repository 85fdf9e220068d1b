use Rattle.zdd_store.specs.inner.Store.{family_of}
use Rattle.zdd_families.specs.inner.Steps.{both}
use Rattle.zdd_families.specs.inner.Unions.{IsUnionOfBoth}
use Rattle.zdd_families.proofs.Telling.{minimal_sets_of, tells_both}
use Rattle.zdd_families.proofs.Products.{least_of_all}
use Rattle.zdd_families.proofs.families.min_product.Goals as goal

pub returns-clause-minimal : goal.returns-clause-minimal
returns-clause-minimal c =
    let first = family_of c.args.store.now c.args.a in
    let second = family_of c.args.store.now c.args.b in
    minimal_sets_of (both first second) (IsUnionOfBoth first second) (family_of c.product_of_minimal.new.store c.in_ok-answer.answer)
    (tells_both first second (c.laws.ensures.rising c.args.a.position c.requires.a_in) (c.laws.ensures.rising c.args.b.position c.requires.b_in))
    (least_of_all (both first second) (family_of c.product_of_minimal.new.store c.in_ok-answer.answer) c.in_ok-answer.ensures.answer.right)
    (c.laws-2.ensures.rising c.in_ok-answer.answer.position c.in_ok-answer.ensures.answer.found)

pub returns-clause-covers : goal.returns-clause-covers
returns-clause-covers c =
    least_of_all (both (family_of c.args.store.now c.args.a) (family_of c.args.store.now c.args.b)) (family_of c.product_of_minimal.new.store c.in_ok-answer.answer) c.in_ok-answer.ensures.answer.right
