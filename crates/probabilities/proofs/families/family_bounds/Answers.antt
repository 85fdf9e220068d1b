use Rattle.std.proofs.Common.{◌<◌, ◌≤◌, length, Ok, Some, arith}
use Rattle.std.specs.HashMap.{get}
use Rattle.zdd_store.specs.inner.Family.{least_number}
use Rattle.zdd_store.specs.inner.Store.{family_of}
use Rattle.zdd_families.proofs.Above.{least_number-most}
use Rattle.zdd_store.specs.contracts.id.IdPartialEq.TheImpl.{eq-value as id_eq}
use Rattle.probabilities.proofs.Cofactors.{root_cofactor, given_up, nothing_known}
use Rattle.probabilities.proofs.Deciding.{bounded_list, narrow_list, no_ends, sharp_list}
use Rattle.probabilities.proofs.families.family_bounds.Goals as goal

pub returns-clause-bounds : goal.returns-clause-bounds
returns-clause-bounds c = bounded_list c.args.whole c.args.rates.now (family_of c.args.store.now c.args.id) c.bounds_in.result c.requires.rates c.bounds_in.ensures.bounds.bounds

pub returns-clause-narrow : goal.returns-clause-narrow
returns-clause-narrow c = narrow_list c.args.whole c.args.rates.now (family_of c.args.store.now c.args.id) c.bounds_in.result c.bounds_in.ensures.bounds.bounds

pub returns-clause-none : goal.returns-clause-none
returns-clause-none c apart =
    let family = family_of c.args.store.now c.args.id in
    given_up (length c.args.rates.now) c.args.most family c.bounds_in.new.store (get id_eq.it c.bounds_in.new.known) c.bounds_in.result
    (c.bounds_in.ensures.traced family record { found = c.requires.id_in; apart = apart; cofactor = root_cofactor family } (nothing_known id_eq.it family c.args.store.now c.new-known.result.entries c.new-known.ensures.empty))

pub returns-clause-sharp : goal.returns-clause-sharp
returns-clause-sharp c = sharp_list c.args.whole c.args.rates.now (family_of c.args.store.now c.args.id) c.bounds_in.result c.bounds_in.ensures.bounds.bounds

pub returns-in_default-clause-bounds : goal.returns-in_default-clause-bounds
returns-in_default-clause-bounds c = bounded_list c.args.whole c.args.rates.now (family_of c.args.store.now c.args.id) (Ok (Some c.end_bounds.result)) c.requires.rates c.end_bounds.ensures.bounds

pub returns-clause-ends : goal.returns-clause-ends
returns-clause-ends c =
    let node = c.in-Some._node in
    let above : node.var < least_number (family_of c.args.store.now node.lo) = c.in-Some.ensures.fits.lo_greater in
    let most : least_number (family_of c.args.store.now node.lo) ≤ 4294967296 = least_number-most (family_of c.args.store.now node.lo) in
    no_ends c.args.whole node.var (family_of c.args.store.now c.args.id) c.bounds_in.result c.in-Some.ensures.least (omega (arith, above, most))
