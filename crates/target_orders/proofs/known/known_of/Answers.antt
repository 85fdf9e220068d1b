use Rattle.target_orders.proofs.known.known_of.Goals as goal

pub limits_of-requires : goal.limits_of-requires
limits_of-requires c n has = (c.in_ok-always.ensures n).0 has
