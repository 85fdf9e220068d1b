use Rattle.std.proofs.Common.{◌∙◌, length, ap, arith}
use Rattle.zdd_store.specs.inner.Store.{family_of}
use Rattle.zdd_families.proofs.Ways.{Keeps_trans}
use Rattle.forbidden_sets.proofs.Parts.{below-none, first-below, first-few, none-rises, one-set, rising-first, rising-rest}
use Rattle.forbidden_sets.proofs.families.+set_family.Goals as goal

pub returns-in_default-clause-found : goal.returns-in_default-clause-found
returns-in_default-clause-found t c = c.laws.ensures.some

pub returns-in_default-clause-family : goal.returns-in_default-clause-family
returns-in_default-clause-family t c = none-rises c.args.set.now c.in_default.ensures.cases (family_of c.args.store.now (record { position = 1 })) c.laws.ensures.unit

pub set_family-requires : goal.set_family-requires
set_family-requires t c =
    let longer = ap length c.in-Some.ensures.cases.0 in
    (omega (arith, longer), rising-rest c.args.set.now c.in-Some.rest.now c.in-Some.first.now c.in-Some.ensures.cases.0 c.requires)

pub make-requires-clause-lo_in : goal.make-requires-clause-lo_in
make-requires-clause-lo_in t c =
    let some = c.laws.ensures.some in
    let more = c.set_family.ensures.kept.more in
    omega (arith, some, more)

pub make-requires-clause-lo_greater : goal.make-requires-clause-lo_greater
make-requires-clause-lo_greater t c =
    let first = c.in-Some.first.now in
    let less = rising-first c.args.set.now c.in-Some.rest.now first c.in-Some.ensures.cases.0 c.requires in
    let some = c.laws.ensures.some in
    below-none first (family_of c.set_family.new.store (record { position = 0 })) (c.set_family.ensures.kept.same 0 (omega (arith, some)) ∙ c.laws.ensures.empty) (first-few first c.in-Some.rest.now less)

pub make-requires-clause-hi_greater : goal.make-requires-clause-hi_greater
make-requires-clause-hi_greater t c =
    let first = c.in-Some.first.now in
    let less = rising-first c.args.set.now c.in-Some.rest.now first c.in-Some.ensures.cases.0 c.requires in
    first-below first c.in-Some.rest.now (family_of c.set_family.new.store c.in_ok-hi.hi) c.in_ok-hi.ensures.family less (first-few first c.in-Some.rest.now less)

pub returns-clause-family : goal.returns-clause-family
returns-clause-family t c =
    let some = c.laws.ensures.some in
    one-set c.in-Some.first.now c.args.set.now c.in-Some.rest.now (family_of c.set_family.new.store (record { position = 0 })) (family_of c.set_family.new.store c.in_ok-hi.hi) (family_of c.make.new.self c.in_ok-id.id)
    c.in-Some.ensures.cases.0 (c.set_family.ensures.kept.same 0 (omega (arith, some)) ∙ c.laws.ensures.empty) c.in_ok-hi.ensures.family c.in_ok-id.ensures.family

pub returns-clause-kept : goal.returns-clause-kept
returns-clause-kept t c = Keeps_trans _ _ _ c.set_family.ensures.kept c.make.ensures.kept
