use Rattle.std.proofs.Common.{arith}
use Rattle.zdd_store.specs.inner.Store.{family_of}
use Rattle.listing_changes.proofs.Placing.{both-ways, empty-below, first-elsewhere, first-there, none-below, not-there}
use Rattle.listing_changes.proofs.containing.+has_set.Goals as goal

pub returns-in_default-split_first : goal.returns-in_default-split_first
returns-in_default-split_first t c =
    let node = c.in-Some.node in
    let store = c.args.store.now in
    both-ways c.has_set.ensures (empty-below (family_of store c.args.id) (family_of store node.lo) (family_of store node.hi) node.var c.in-Some.ensures.family c.args.numbers.now c.in_default-split_first.ensures.cases)

pub returns-then-first-node : goal.returns-then-first-node
returns-then-first-node t c =
    let first = c.in-Some-split_first.first.now in
    let less = c.if-first-node.true in
    let least = c.in-Some.ensures.least in
    not-there (none-below (family_of c.args.store.now c.args.id) c.args.numbers.now c.in-Some-split_first.rest.now first c.in-Some-split_first.ensures.cases.0 (omega (arith, less, least)))

pub returns-then-first-node-2 : goal.returns-then-first-node-2
returns-then-first-node-2 t c =
    let node = c.in-Some.node in
    let store = c.args.store.now in
    both-ways c.has_set-then-first-node-2.ensures (first-there (family_of store c.args.id) (family_of store node.lo) (family_of store node.hi) node.var c.in-Some.ensures.family c.args.numbers.now c.in-Some-split_first.rest.now c.in-Some-split_first.first.now
    c.in-Some-split_first.ensures.cases.0 c.if-first-node-2.true c.in-Some.ensures.fits.lo_greater)

pub returns : goal.returns
returns t c =
    let node = c.in-Some.node in
    let store = c.args.store.now in
    both-ways c.has_set-2.ensures (first-elsewhere (family_of store c.args.id) (family_of store node.lo) (family_of store node.hi) node.var c.in-Some.ensures.family c.args.numbers.now c.in-Some-split_first.rest.now c.in-Some-split_first.first.now
    c.in-Some-split_first.ensures.cases.0 c.if-first-node-2.false)
