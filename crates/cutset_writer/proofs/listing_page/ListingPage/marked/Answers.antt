use Rattle.std.proofs.Common.{◌≤◌, ℕ, List, Option, length, sym, subst}
use Rattle.page_tokens.specs.Starts.{start_text}
use Rattle.cutset_writer.specs.inner.Lengths.{most_line}
use Rattle.cutset_writer.proofs.SetLines.{start_fits}
use Rattle.cutset_writer.proofs.listing_page.ListingPage.marked.Goals as goal

pub keep_place-requires-clause-fits : goal.keep_place-requires-clause-fits
keep_place-requires-clause-fits c =
    let system = c.args.system in
    subst (λ (start : Option (List ℕ)). length (start_text system start) ≤ most_line system) (sym c.numbers_of.ensures) (start_fits system c.args.after c.requires.after)
