use Rattle.std.proofs.Common.{◌≡◌, ◌<◌, ◌∷◌, [], ◌∙◌, ap, sym, subst, length, arith}
use Rattle.zdd_store.specs.inner.Store.{family_at, family_of}
use Rattle.zdd_store.specs.inner.Answers.{HasAtLeast, HasAtMost, sets_of}
use Rattle.zdd_families.proofs.Sizing.{of_empty, of_unit, of_unit_none, none_of_more, none_of_less, all_of}
use Rattle.zdd_families.proofs.sizes.exact_by_size.Goals as goal

pub returns-then-a-eq0-clause-told : goal.returns-then-a-eq0-clause-told
returns-then-a-eq0-clause-told c =
    let is : family_of c.args.store.now c.args.a ≡ [] = ap (family_at c.args.store.now) c.if-a-eq0.true ∙ c.laws.ensures.empty in
    (c.requires, is ∙ of_empty c.args.size ∙ ap (sets_of c.args.size) (sym is))

pub returns-then-size-eq0-clause-told : goal.returns-then-size-eq0-clause-told
returns-then-size-eq0-clause-told c =
    let is : family_of c.args.store.now c.args.a ≡ [] ∷ [] = ap (family_at c.args.store.now) c.if-a-eq1.true ∙ c.laws.ensures.unit in
    (c.laws.ensures.some, c.laws.ensures.unit ∙ of_unit ∙ ap (λ n. sets_of n ([] ∷ [])) (sym c.if-size-eq0.true) ∙ ap (sets_of c.args.size) (sym is))

pub returns-else-size-eq0-clause-told : goal.returns-else-size-eq0-clause-told
returns-else-size-eq0-clause-told c =
    let some : 1 < length c.args.store.now = c.laws.ensures.some in
    let is : family_of c.args.store.now c.args.a ≡ [] ∷ [] = ap (family_at c.args.store.now) c.if-a-eq1.true ∙ c.laws.ensures.unit in
    (omega arith, c.laws.ensures.empty ∙ of_unit_none c.args.size c.if-size-eq0.false ∙ ap (sets_of c.args.size) (sym is))

pub returns-then-shape-lt4294967295-clause-told : goal.returns-then-shape-lt4294967295-clause-told
returns-then-shape-lt4294967295-clause-told c =
    let some : 1 < length c.args.store.now = c.laws.ensures.some in (
      omega arith,
      c.laws.ensures.empty ∙ none_of_more c.shape-shape.result.greatest c.args.size (family_of c.args.store.now c.args.a) (omega arith) c.if-shape-lt4294967295.true c.shape-shape.ensures.greatest,
    )

pub returns-then-size-shape-clause-told : goal.returns-then-size-shape-clause-told
returns-then-size-shape-clause-told c =
    let some : 1 < length c.args.store.now = c.laws.ensures.some in (
      omega arith,
      c.laws.ensures.empty ∙ none_of_less c.shape-shape.result.least c.args.size (family_of c.args.store.now c.args.a) c.if-size-shape.true c.shape-shape.ensures.least,
    )

pub returns-then-size-lt4294967295-clause-told : goal.returns-then-size-lt4294967295-clause-told
returns-then-size-lt4294967295-clause-told c =
    let least : c.shape-shape.result.least ≡ c.args.size = omega arith in
    let greatest : c.shape-shape.result.greatest ≡ c.args.size = omega arith in (
      c.requires,
      all_of c.args.size (family_of c.args.store.now c.args.a) c.if-size-lt4294967295.true (subst (λ n. HasAtLeast n (family_of c.args.store.now c.args.a)) least c.shape-shape.ensures.least)
          (subst (λ n. HasAtMost n (family_of c.args.store.now c.args.a)) greatest c.shape-shape.ensures.greatest),
    )
