use Rattle.std.proofs.Common.{◌≡◌, ◌<◌, ◌≤◌, arith}
use Rattle.zdd_store.specs.inner.Store.{family_of}
use Rattle.zdd_store.specs.inner.Family.{least_number}
use Rattle.zdd_families.proofs.Splits.{least-node, least-terminal, split-greater, split-node}
use Rattle.zdd_families.proofs.split.split.Goals as goal

pub returns-in-Some : goal.returns-in-Some
returns-in-Some c = split-node c.args.store.now c.args.id c.args.var c.in-Some.node c.in-Some.ensures.fits c.in-Some.ensures.family c.if-node-var.true

pub returns-in_default : goal.returns-in_default
returns-in_default c =
    let least = least-node c.args.store.now c.in-Some.node (family_of c.args.store.now c.args.id) c.laws.ensures c.in-Some.ensures.fits c.in-Some.ensures.family in
    let other : c.in-Some.node.var ≡ c.args.var → ⊥ = c.if-node-var.false in
    let at : c.args.var ≤ least_number (family_of c.args.store.now c.args.id) = c.requires.not_greater in
    let fits : c.args.var < 4294967296 = omega (arith, c.ranges.var.fits) in
    split-greater c.args.store.now c.args.id c.args.var c.laws.ensures c.requires.found (omega arith) fits

pub returns-in_default-2 : goal.returns-in_default-2
returns-in_default-2 c =
    let least = least-terminal c.args.store.now c.args.id.position c.laws.ensures (c.in_default.ensures.found c.requires.found) in
    let fits : c.args.var < 4294967296 = omega (arith, c.ranges.var.fits) in
    split-greater c.args.store.now c.args.id c.args.var c.laws.ensures c.requires.found (omega arith) fits
