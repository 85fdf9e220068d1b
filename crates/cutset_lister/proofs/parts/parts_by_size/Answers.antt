use Rattle.cutset_lister.proofs.BySize.{more_sizes}
use Rattle.cutset_lister.proofs.parts.parts_by_size.Goals as goal

pub loop-size-preserved : goal.loop-size-preserved
loop-size-preserved c =
    more_sizes c.args.store.now c.loop-size.store c.of_size.new.store c.args.family c.in_ok-part.part c.loop-size.size c.loop-size.parts.items c.push.new.self.items c.requires.found c.loop-size.invariant c.of_size.ensures.kept
    c.in_ok-part.ensures.found c.in_ok-part.ensures.family c.in_ok-push.ensures.items
