use Rattle.zdd_store.specs.inner.Store.{family_of}
use Rattle.cutset_lister.proofs.Going.{begins, begins_left, begins_listed, begins_ordered}
use Rattle.cutset_lister.proofs.walk.Listing.start.Goals as goal
use Rattle.std.proofs.Common.{length}

pub returns-clause-started : goal.returns-clause-started
returns-clause-started c =
    begins c.parts_by_size.new.store (family_of c.args.store.now c.args.family) c.args.events.now c.in_ok-parts.parts.items c.in_ok-path.path c.laws-2.ensures c.requires.among c.in_ok-parts.ensures.parts c.in_ok-parts.ensures.count c.in_ok-path.ensures

pub returns-clause-ordered : goal.returns-clause-ordered
returns-clause-ordered c =
    begins_ordered c.args.store.now c.parts_by_size.new.store c.args.family c.args.events.now c.in_ok-parts.parts.items c.laws.ensures c.requires.found c.in_ok-parts.ensures.parts c.in_ok-parts.ensures.count

pub returns-clause-sets : goal.returns-clause-sets
returns-clause-sets c =
    begins_listed c.args.store.now c.parts_by_size.new.store c.args.family c.args.events.now c.in_ok-parts.parts.items c.laws.ensures c.requires.found c.requires.among c.in_ok-parts.ensures.parts c.in_ok-parts.ensures.count

pub returns-clause-left : goal.returns-clause-left
returns-clause-left c = begins_left c.parts_by_size.new.store c.in_ok-parts.parts.items c.in_ok-path.path (length c.args.events.now) c.laws-2.ensures c.in_ok-path.ensures
