use Rattle.std.proofs.Common.{arith}
use Rattle.cutset_lister.proofs.Below.{descended, descended_first, descended_place, descended_steps, less-room, room-node}
use Rattle.cutset_lister.proofs.moves.descend.Goals as goal

pub push-requires : goal.push-requires
push-requires g c = room-node c.args.store.now c.loop-node.path c.loop-node.id c.in-Some.node c.laws.ensures c.loop-node.invariant.place c.in-Some.ensures.fits c.in-Some.ensures.family

pub loop-node-smaller : goal.loop-node-smaller
loop-node-smaller g c =
    less-room c.loop-node.path c.push.new.self (record { number = c.in-Some.node.var; low = c.in-Some.node.lo }) c.push.ensures
    (room-node c.args.store.now c.loop-node.path c.loop-node.id c.in-Some.node c.laws.ensures c.loop-node.invariant.place c.in-Some.ensures.fits c.in-Some.ensures.family)

pub loop-node-preserved : goal.loop-node-preserved
loop-node-preserved g c =
    descended c.args.store.now c.args.path.now c.loop-node.path c.push.new.self c.args.family c.loop-node.id c.in-Some.node c.args.steps.now c.loop-node.steps c.look.new.steps c.loop-node.invariant c.in-Some.ensures.fits
    c.in-Some.ensures.family c.push.ensures c.in-Some.ensures.step

pub returns-clause-first : goal.returns-clause-first
returns-clause-first g c =
    descended_first c.args.store.now c.args.path.now c.loop-node.path c.args.family c.loop-node.id c.args.steps.now c.loop-node.steps c.laws.ensures c.loop-node.invariant (c.in_default.ensures.found c.loop-node.invariant.place.rest_in)

pub returns-clause-place : goal.returns-clause-place
returns-clause-place g c = λ empty is.
    descended_place c.args.store.now c.args.path.now c.loop-node.path c.args.family c.loop-node.id empty c.args.steps.now c.loop-node.steps c.laws.ensures c.loop-node.invariant (c.in_default.ensures.found c.loop-node.invariant.place.rest_in) is

pub returns-clause-steps : goal.returns-clause-steps
returns-clause-steps g c =
    let most = descended_steps c.args.store.now c.args.path.now c.loop-node.path c.args.family c.loop-node.id c.args.steps.now c.loop-node.steps c.laws.ensures c.loop-node.invariant (c.in_default.ensures.found c.loop-node.invariant.place.rest_in) in
    let step = c.in_default.ensures.step in omega arith
