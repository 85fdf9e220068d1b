use Rattle.std.proofs.Common.{◌-◌, length, sym, ◌∙◌, arith}
use Rattle.error_types.proofs.WalkedRows.{walk-all, walk-begins, walk-ends, walk-goes_on, walk-room}
use Rattle.error_types.proofs.hierarchy.put_along.Goals as goal

pub loop-init : goal.loop-init
loop-init c = walk-begins c.args.bases.now c.args.low c.args.rows.now (length c.args.bases.now - 0) (omega arith) c.requires.so_far

pub put_at-requires : goal.put_at-requires
put_at-requires c = walk-room c.args.bases.now c.args.low c.requires.within _ _ c.loop.rows c.loop.invariant c.loop.high

pub returns-in-None : goal.returns-in-None
returns-in-None c =
    walk-ends c.args.bases.now c.args.low c.requires.within c.loop.high c.loop.rows c.put_at.new.rows c.put_at.ensures c.loop.counter c.loop-test.true c.loop.invariant (sym c.base_in.ensures ∙ c.in-None.is)

pub loop-preserved : goal.loop-preserved
loop-preserved c =
    walk-goes_on c.args.bases.now c.args.low c.requires.within c.loop.high c.loop.rows c.put_at.new.rows c.put_at.ensures c.loop.counter c.loop-test.true c.loop.invariant c.in-Some.base (sym c.base_in.ensures ∙ c.in-Some.is)

pub put_at-requires-2 : goal.put_at-requires-2
put_at-requires-2 c = walk-room c.args.bases.now c.args.low c.requires.within _ _ c.loop.rows c.loop.invariant c.loop.high

pub returns : goal.returns
returns c = walk-all c.args.bases.now c.args.low c.requires.within c.loop.high c.loop.rows c.put_at-2.new.rows c.put_at-2.ensures c.loop.counter c.loop-test.false c.loop.invariant
