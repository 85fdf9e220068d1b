use Rattle.phases.specs.inner.Meets.{IsMemory}
use Rattle.phases.proofs.Steps.{meets_later}
use Rattle.system_answers.specs.Texts.{named_tree, tree_sets}
use Rattle.system_answers.proofs.galileo.tree_sets.Goals as goal

pub returns : goal.returns
returns c =
    meets_later IsMemory (λ page. page) (named_tree c.args.wide c.args.text.now) (tree_sets c.args.limit c.args.max_order) c.in_ok-tree.tree c.sets_of.result (λ s memory. memory) c.in_ok-tree.ensures.tree c.sets_of.ensures
