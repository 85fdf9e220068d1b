use Rattle.phases.specs.inner.Meets.{IsMemory}
use Rattle.phases.proofs.Steps.{meets_later}
use Rattle.system_answers.specs.Texts.{named_tree, tree_paths}
use Rattle.system_answers.proofs.galileo.tree_paths.Goals as goal

pub returns : goal.returns
returns c =
    meets_later IsMemory (λ page. page) (named_tree c.args.wide c.args.text.now) (tree_paths c.args.limit c.args.max_order) c.in_ok-tree.tree c.paths_of.result (λ s memory. memory) c.in_ok-tree.ensures.tree c.paths_of.ensures
