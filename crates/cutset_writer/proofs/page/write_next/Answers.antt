use Rattle.cutset_writer.specs.inner.Lengths.{most_line}
use Rattle.cutset_writer.proofs.SetLines.{first_fits}
use Rattle.cutset_writer.proofs.page.write_next.Goals as goal

pub keep_place-requires-clause-fits : goal.keep_place-requires-clause-fits
keep_place-requires-clause-fits g c =
    let system = c.args.source.now.system.now in
    let first = c.in-Some.ensures.set in
    first_fits system (most_line system) _ c.in-Some.set.now first.0 first.1 c.requires.fits
