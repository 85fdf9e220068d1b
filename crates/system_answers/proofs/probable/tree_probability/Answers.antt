use Rattle.phases.specs.inner.Meets.{IsMemory}
use Rattle.phases.proofs.Steps.{ends, exits, meets_later}
use Rattle.system_answers.specs.Texts.{named_tree, probable_tree}
use Rattle.system_answers.proofs.probable.tree_probability.Goals as goal

pub returns-in_err-tree : goal.returns-in_err-tree
returns-in_err-tree c = exits _ _ _ _ _ c.from_residual.ensures.1 (ends c.in_err-tree.ensures.tree)

pub returns : goal.returns
returns c =
    let form = c.args.form in
    meets_later IsMemory (λ text. text.items) (named_tree c.args.wide c.args.text.now) (probable_tree form.hours.now form.events form.max_order) c.in_ok-tree.tree c.probability_of.result (λ s memory. memory) c.in_ok-tree.ensures.tree c.probability_of.ensures
