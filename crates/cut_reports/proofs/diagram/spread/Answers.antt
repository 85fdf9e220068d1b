use Rattle.std.proofs.Common.{◌≡◌, ◌<◌, length, rules, slice_index_or, arith}
use Rattle.cut_reports.proofs.Spreading.{spread_none, spread_passed}
use Rattle.cut_reports.proofs.diagram.spread.Goals as goal

pub returns-then-index-eq0-clause-spread : goal.returns-then-index-eq0-clause-spread
returns-then-index-eq0-clause-spread c e root so =
    let none : slice_index_or c.args.weights.now.items c.args.position 0 ≡ 0 = search rules in
    spread_none c.args.store.now c.args.position c.args.weights.now.items c.args.uses.now.items none root so

pub returns-clause-spread : goal.returns-clause-spread
returns-clause-spread c e root so =
    let passed = c.pass_on.ensures.passed e in
    let inside : c.in-Some.node.hi.position < length c.args.counts.now = omega (arith, passed.hi_before, c.requires.there, c.requires.counted) in
    let same : length c.pass_on.new.uses.items ≡ length c.args.uses.now.items = omega (arith, c.pass_on.ensures.uses, c.pass_on.new.uses.ok.0, c.args.uses.now.ok.0) in
    spread_passed c.args.store.now c.args.counts.now c.in-Some.node c.args.position c.args.weights.now.items c.pass_on.new.weights.items c.args.uses.now.items c.pass_on.new.uses.items
    c.requires.below inside c.in-Some.ensures.fits c.in-Some.ensures.family same passed root so
