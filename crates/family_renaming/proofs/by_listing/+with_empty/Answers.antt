use Rattle.std.proofs.Common.{◌<◌, ◌≤◌, [], min, arith}
use Rattle.zdd_store.specs.inner.Family.{least_of, least_number}
use Rattle.zdd_store.specs.inner.Store.{family_of}
use Rattle.family_renaming.proofs.Added.{one_more_unit, one_more_lo, grown, node_fits}
use Rattle.family_renaming.proofs.by_listing.+with_empty.Goals as goal

pub returns-in_default : goal.returns-in_default
returns-in_default t c = one_more_unit c.args.store.now c.args.id c.laws.ensures (c.in_default.ensures.found c.requires)

pub make-requires-clause-lo_greater : goal.make-requires-clause-lo_greater
unfolding least_of
make-requires-clause-lo_greater t c =
    let lo : min 4294967296 (least_number (family_of c.args.store.now c.in-Some.node.lo)) ≤ least_number (family_of c.with_empty.new.store c.in_ok-lo.lo) = c.in_ok-lo.ensures.answer.least in
    let above : c.in-Some.node.var < least_number (family_of c.args.store.now c.in-Some.node.lo) = c.in-Some.ensures.fits.lo_greater in
    let most : c.in-Some.node.var < 4294967296 = node_fits c.args.store.now c.in-Some.node c.in-Some.ensures.fits in
    omega arith

pub returns : goal.returns
unfolding least_of
returns t c =
    grown c.args.store.now c.with_empty.new.store c.make.new.self [] c.args.id c.make.result c.with_empty.ensures.kept c.make.ensures.kept c.make.ensures.found c.make.ensures.family
    (λ answer answer_in made. one_more_lo c.args.store.now c.with_empty.new.store c.make.new.self c.args.id c.in-Some.node [] c.in_ok-lo.lo answer
    c.in-Some.ensures.fits c.in-Some.ensures.family c.in-Some.ensures.least (node_fits c.args.store.now c.in-Some.node c.in-Some.ensures.fits) c.with_empty.ensures.kept c.in_ok-lo.ensures.answer answer_in made)
