use Rattle.std.proofs.Common.{sym, subst, Ok, arith}
use Rattle.zdd_store.specs.inner.Store.{family_at}
use Rattle.zdd_store.proofs.Growing.{Keeps-same}
use Rattle.family_renaming.specs.inner.Lists.{OneMore}
use Rattle.family_renaming.proofs.Added.{one_more_unit, one_more_alone, grown, above_more, empty_above}
use Rattle.family_renaming.proofs.by_listing.+set_alone.Goals as goal

pub returns-in_default : goal.returns-in_default
returns-in_default t c =
    subst (λ s. OneMore c.args.store.now c.args.store.now s (record { position = 0 }) (Ok (record { position = 1 }))) (sym c.in_default.ensures.none)
    (one_more_unit c.args.store.now (record { position = 0 }) c.laws.ensures (omega arith))

pub make-requires-clause-lo_greater : goal.make-requires-clause-lo_greater
make-requires-clause-lo_greater t c =
    empty_above c.args.store.now c.set_alone.new.store c.in-Some.first c.in-Some.rest.now c.laws.ensures c.set_alone.ensures.kept c.in-Some.ensures.some.1.1

pub make-requires-clause-hi_greater : goal.make-requires-clause-hi_greater
make-requires-clause-hi_greater t c =
    above_more c.set_alone.new.store c.in-Some.rest.now (family_at c.args.store.now 0) c.in_ok-hi.hi c.in-Some.first c.in-Some.ensures.some.1.1
    (empty_above c.args.store.now c.args.store.now c.in-Some.first c.in-Some.rest.now c.laws.ensures (Keeps-same c.args.store.now) c.in-Some.ensures.some.1.1) c.in_ok-hi.ensures.answer

pub returns : goal.returns
returns t c =
    grown c.args.store.now c.set_alone.new.store c.make.new.self c.args.set.now (record { position = 0 }) c.make.result c.set_alone.ensures.kept c.make.ensures.kept c.make.ensures.found c.make.ensures.family
    (λ answer answer_in made.
    one_more_alone c.args.store.now c.set_alone.new.store c.make.new.self c.args.set.now c.in-Some.first c.in-Some.rest.now c.in_ok-hi.hi answer c.laws.ensures
    c.in-Some.ensures.some.0 c.in-Some.ensures.some.1.1 c.set_alone.ensures.kept c.in_ok-hi.ensures.answer answer_in made)
