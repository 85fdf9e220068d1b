use Rattle.std.proofs.Common.{sym, subst}
use Rattle.phases.specs.Phases.{Passes}
use Rattle.system_answers.specs.Texts.{page_in}
use Rattle.system_answers.proofs.FirstSets.{given-page}
use Rattle.system_answers.proofs.cut_sets.page_in.Goals as goal

pub returns : goal.returns
returns c =
    subst (Passes (page_in c.args.form c.args.part.now.target c.args.start c.args.paging.now.limit c.args.paging.now.max_order c.args.system)) (sym c.new.ensures) (given-page c.in_ok-writer.ensures.page c.args.form)
