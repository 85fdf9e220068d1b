use Rattle.std.proofs.Common.{◌≡◌, length, refl, rules, arith}
use Rattle.cut_reports.proofs.Chains.{marked_all, marked_next, marked_none, node_is, shorter}
use Rattle.cut_reports.proofs.diagram.mark_each.Goals as goal

pub loop-node-init : goal.loop-node-init
loop-node-init c = record { marks = λ none. marked_none c.args.store.now c.args.part c.args.marks.now.items none; found = c.requires.found; count = refl }

pub loop-node-smaller : goal.loop-node-smaller
loop-node-smaller c =
    let unit : c.in-Some.node.hi.position ≡ 1 = search rules in
    shorter c.args.store.now c.loop-node.id c.in-Some.node (node_is c.args.store.now c.loop-node.id c.in-Some.node c.laws.ensures c.in-Some.ensures.family unit)

pub loop-node-preserved : goal.loop-node-preserved
loop-node-preserved c =
    let unit : c.in-Some.node.hi.position ≡ 1 = search rules in
    let is = node_is c.args.store.now c.loop-node.id c.in-Some.node c.laws.ensures c.in-Some.ensures.family unit in
    let same : length c.mark_at.new.marks.items ≡ length c.loop-node.marks.items = omega (arith, c.mark_at.ensures.count, c.mark_at.new.marks.ok.0, c.loop-node.marks.ok.0) in
    record {
      marks = λ none. marked_next c.args.store.now c.args.part c.loop-node.id c.in-Some.node c.loop-node.marks.items c.mark_at.new.marks.items is same c.mark_at.ensures.marked (c.loop-node.invariant.marks none);
      found = c.in-Some.ensures.fits.lo_in;
      count = omega (arith, c.loop-node.invariant.count, c.mark_at.ensures.count);
    }

pub returns-clause-marks : goal.returns-clause-marks
returns-clause-marks c e none =
    marked_all c.args.store.now c.args.part c.loop-node.id c.loop-node.marks.items c.laws.ensures (c.in_default.ensures.found c.loop-node.invariant.found) (c.loop-node.invariant.marks none)
