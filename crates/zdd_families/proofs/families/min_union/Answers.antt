use Rattle.zdd_store.specs.inner.Store.{family_of}
use Rattle.zdd_families.specs.inner.Steps.{either}
use Rattle.zdd_families.specs.inner.Unions.{IsInEither}
use Rattle.zdd_families.proofs.Telling.{minimal_sets_of, tells_either}
use Rattle.zdd_families.proofs.families.min_union.Goals as goal

pub returns-clause-minimal : goal.returns-clause-minimal
returns-clause-minimal c =
    let first = family_of c.args.store.now c.args.a in
    let second = family_of c.args.store.now c.args.b in
    minimal_sets_of (either first second) (IsInEither first second) (family_of c.union_of_minimal.new.store c.in_ok-answer.answer)
    (tells_either first second (c.laws.ensures.rising c.args.a.position c.requires.a_in) (c.laws.ensures.rising c.args.b.position c.requires.b_in))
    c.in_ok-answer.ensures.answer.right
    (c.laws-2.ensures.rising c.in_ok-answer.answer.position c.in_ok-answer.ensures.answer.found)
