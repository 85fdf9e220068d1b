use Rattle.target_orders.proofs.AloneLaws.{alone-put, stamped-few, stamped-held}
use Rattle.target_orders.proofs.alone.add_if.Goals as goal

pub returns-in_ok-wait_if-clause-walk : goal.returns-in_ok-wait_if-clause-walk
returns-in_ok-wait_if-clause-walk c = record {
  some = c.requires.walk.some;
  there = c.requires.walk.there;
  few = stamped-few c.args.system.now c.args.stamp c.args.walk.now c.requires.walk c.write_stamp.new.stamps.items c.args.fact c.write_stamp.ensures;
  held = stamped-held c.args.system.now c.args.stamp c.args.walk.now c.requires.walk c.write_stamp.new.stamps.items c.args.fact c.write_stamp.ensures (c.is_made.ensures c.if-is_made.true);
  only = c.requires.walk.only;
}

pub returns-in_ok-wait_if-clause-found : goal.returns-in_ok-wait_if-clause-found
returns-in_ok-wait_if-clause-found c =
    alone-put c.args.system.now c.args.stamp c.args.walk.now c.requires.walk c.args.found.now c.put.new.marks c.args.fact c.put.ensures c.requires.found (c.is_made.ensures c.if-is_made.true)
