use Rattle.std.proofs.Common.{arith}
use Rattle.fault_system.proofs.Elements.{contains_In, each-made}
use Rattle.cutset_lister.specs.inner.Walks.{all_sets}
use Rattle.cutset_writer.proofs.SetLines.{line_fits}
use Rattle.cutset_writer.proofs.page.PageWriter.start.Goals as goal

pub returns-clause-ready : goal.returns-clause-ready
returns-clause-ready c =
    let system = c.args.system.now in
    let all = all_sets c.start.new.store c.in_ok-listing.listing in
    record {
      started = c.in_ok-listing.ensures.started;
      left = c.in_ok-listing.ensures.left;
      room = each-made _ all (λ set here form. line_fits form system set (omega (arith, c.events-events.ensures.count)) (c.requires.sets set ((c.in_ok-listing.ensures.sets set).0 (contains_In set all here))));
      wide = omega (arith, c.in-Some.ensures, c.in_ok-line.ensures.capacity);
    }
