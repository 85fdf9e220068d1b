use Rattle.std.proofs.Common.{◌≡◌, false}
use Rattle.fault_system.proofs.Differing.{differ-new, differ-more}
use Rattle.fault_system.proofs.NameTables.{has_key, is-new, is-old, is_true, is_false, named-next}
use Rattle.fault_system.proofs.checks.Names.of.Goals as goal

pub returns-then-not-is_new : goal.returns-then-not-is_new
returns-then-not-is_new g c =
    λ differ. is-old g.T.Named.name_of c.name.result.now c.loop-i.set.keys _ c.loop-i.invariant.named
    (is_true c.in_ok-is_new.is_new _ c.in_ok-is_new.ensures.added c.if-not-is_new.true)
    (differ-new g.T.Named.name_of c.args.items.now c.loop-i.i c.index-items-i.result _ c.loop-i-test.true c.index-items-i.is c.name.ensures differ)

pub loop-i-preserved : goal.loop-i-preserved
loop-i-preserved g c =
    let none : has_key c.loop-i.set.keys c.name.result.now ≡ false = is_false c.in_ok-is_new.is_new _ c.in_ok-is_new.ensures.added c.if-not-is_new.false in
    record {
      named = named-next g.T.Named.name_of c.args.items.now c.loop-i.i c.index-items-i.result c.name.result c.loop-i.set.keys c.insert_full.new.self.keys c.loop-i-test.true c.index-items-i.is c.name.ensures c.loop-i.invariant.named none c.in_ok-is_new.ensures.keys;
      differ = differ-more g.T.Named.name_of c.args.items.now c.loop-i.i c.index-items-i.result _ c.loop-i-test.true c.index-items-i.is c.name.ensures c.loop-i.invariant.differ (is-new g.T.Named.name_of c.name.result.now c.loop-i.set.keys _ c.loop-i.invariant.named none);
    }
