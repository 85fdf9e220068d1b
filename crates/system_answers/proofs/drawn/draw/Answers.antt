use Rattle.phases.specs.inner.Meets.{IsMemory}
use Rattle.phases.proofs.Steps.{ends, exits, meets_later}
use Rattle.system_answers.specs.Texts.{drawn_tree, named_tree}
use Rattle.system_answers.specs.inner.Forms.{tree_bytes}
use Rattle.system_answers.proofs.drawn.draw.Goals as goal

pub returns-in_err-tree : goal.returns-in_err-tree
returns-in_err-tree c = exits _ _ _ _ _ c.from_residual.ensures.1 (ends c.in_err-tree.ensures.tree)

pub returns : goal.returns
returns c =
    meets_later IsMemory tree_bytes (named_tree c.args.wide c.args.text.now) (drawn_tree c.args.exchanged c.args.merged c.args.legend) c.in_ok-tree.tree c.picture_of.result (λ s memory. memory) c.in_ok-tree.ensures.tree c.picture_of.ensures
