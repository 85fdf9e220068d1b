use Rattle.std.proofs.Common.{◌<◌, IfOk, length, subst, sym}
use Rattle.zdd_store.specs.inner.Store.{Families, Keeps, family_of}
use Rattle.zdd_families.specs.inner.Unions.{HasMinimalSets, IsInEither}
use Rattle.cutset_engine.proofs.singles.joined.Goals as goal

pub min_union-requires-clause-a_in : goal.min_union-requires-clause-a_in
min_union-requires-clause-a_in c = subst (λ (store : Families). c.args.ones.position < length store) (sym c.note_apart.ensures) c.requires.ones_in

pub min_union-requires-clause-b_in : goal.min_union-requires-clause-b_in
min_union-requires-clause-b_in c = subst (λ (store : Families). c.args.rest.position < length store) (sym c.note_apart.ensures) c.requires.rest_in

pub returns-clause-minimal : goal.returns-clause-minimal
returns-clause-minimal c =
    subst (λ (store : Families). IfOk c.min_union.result (λ id. HasMinimalSets (family_of c.min_union.new.store id) (IsInEither (family_of store c.args.ones) (family_of store c.args.rest)))) c.note_apart.ensures c.min_union.ensures.minimal

pub returns-clause-kept : goal.returns-clause-kept
returns-clause-kept c = subst (λ (store : Families). Keeps store c.min_union.new.store) c.note_apart.ensures c.min_union.ensures.kept
