use Rattle.std.proofs.lemmas.Result.{err_from_is_err_and}
use Rattle.zdd_store.specs.inner.Store.{family_of}
use Rattle.cutset_lister.specs.inner.Walks.{all_sets}
use Rattle.path_sets.specs.Duals.{dual_of}
use Rattle.system_answers.proofs.Listed.{path_listed, slice_stop}
use Rattle.system_answers.proofs.path_pages.dual_writer.Goals as goal

pub returns-in_err-found-clause-refused : goal.returns-in_err-found-clause-refused
returns-in_err-found-clause-refused c =
    let p = err_from_is_err_and c.from_residual.result c.from_residual.ensures.1 in
    rw (p.1, p.2) (slice_stop (dual_of c.args.system.now) c.args.target c.in_err-found.field-0.0 c.in_err-found.ensures.refused)

pub returns-clause-listing : goal.returns-clause-listing
returns-clause-listing c =
    path_listed c.args.system.now c.args.target c.args.max_order (family_of c.paths.new.store c.in_ok-found.found.family) (all_sets c.start.new.store c.in_ok-writer.writer.listing) c.in_ok-found.ensures.exact c.in_ok-writer.ensures.lists
