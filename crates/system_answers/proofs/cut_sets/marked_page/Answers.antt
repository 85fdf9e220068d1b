use Rattle.std.proofs.Common.{◌≡◌, ℕ, List, Some, sym, subst}
use Rattle.phases.specs.Phases.{Passes}
use Rattle.cutset_lister.specs.inner.Walks.{all_sets}
use Rattle.cutset_writer.specs.Text.{marked_page}
use Rattle.cutset_writer.specs.declared.form.SetForm.TheVariants.{Token}
use Rattle.system_answers.specs.Texts.{page_of}
use Rattle.system_answers.proofs.FirstSets.{given-marked}
use Rattle.system_answers.proofs.cut_sets.marked_page.Goals as goal

pub returns : goal.returns
returns c =
    let paging = c.args.paging.now in
    let key = c.args.key.now in
    let sets = all_sets c.limited_writer.new.store c.in_ok-writer.writer.listing in
    let text = λ (its : List ℕ). marked_page Token c.args.system (Some its) c.args.start paging.limit sets in
    let page = subst (λ (its : List ℕ). c.marked.result ≡ text its) c.in_ok-bookmark.ensures.key c.marked.ensures in
    subst (Passes (page_of c.args.part.now.target c.args.start paging (Some key) c.args.system)) (sym page) (given-marked paging c.in_ok-writer.ensures.page (Some key))
