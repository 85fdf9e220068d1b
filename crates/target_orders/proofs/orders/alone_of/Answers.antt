use Rattle.target_orders.proofs.orders.alone_of.Goals as goal

pub alone-requires : goal.alone-requires
alone-requires c n has = (c.requires.always_is n).0 has
