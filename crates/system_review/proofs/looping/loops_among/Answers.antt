use Rattle.std.proofs.Common.{List, nat_eq, ap, subst, sym, arith}
use Rattle.std.specs.List.{list_any}
use Rattle.std.specs.HashSet.{contains}
use Rattle.system_review.specs.declared.looping.Loop.{Loop}
use Rattle.system_review.proofs.LoopLaws.{Gathered, gathered-none, gathered-next, gathered-end, in_block, none-told, one-meaning}
use Rattle.system_review.proofs.looping.loops_among.Goals as goal

pub loop-number-init : goal.loop-number-init
loop-number-init c =
    let is = c.facts-number-end.ensures.system in (
      is,
      c.requires,
      subst (λ (loops : List Loop). Gathered c.args.system.now is c.args.blocks.now c.requires (contains nat_eq c.new-seen.result) loops 0) (sym c.new-loops.ensures)
          (gathered-none c.args.system.now is c.args.blocks.now c.requires (contains nat_eq c.new-seen.result) (λ block. ap (list_any (nat_eq block)) c.new-seen.ensures.empty)),
    )

pub add_loop-requires : goal.add_loop-requires
add_loop-requires c = let inv = c.loop-number.invariant in in_block c.args.system.now inv.0 c.args.blocks.now inv.1 c.loop-number.number (omega (arith, c.facts-number-end.ensures.count))

pub loop-number-preserved : goal.loop-number-preserved
loop-number-preserved c =
    let inv = c.loop-number.invariant in
    let adds = c.in_ok-add_loop.ensures in
    (inv.0, inv.1, gathered-next c.args.system.now inv.0 c.args.blocks.now inv.1 (contains nat_eq c.loop-number.seen) (contains nat_eq c.add_loop.new.seen) c.loop-number.loops c.add_loop.new.loops c.loop-number.number (omega (arith, c.facts-number-end.ensures.count)) adds.seen inv.2 adds.loops)

pub returns-clause-loops : goal.returns-clause-loops
returns-clause-loops c =
    let inv = c.loop-number.invariant in
    gathered-end c.args.system.now inv.0 c.args.blocks.now inv.1 (contains nat_eq c.loop-number.seen) c.loop-number.loops c.loop-number.number (omega (arith, c.facts-number-end.ensures.count)) inv.2

pub returns-clause-one : goal.returns-clause-one
returns-clause-one c empty =
    let inv = c.loop-number.invariant in
    one-meaning c.args.system.now inv.0 c.args.blocks.now inv.1 (none-told c.args.system.now c.loop-number.loops (returns-clause-loops c) empty)
