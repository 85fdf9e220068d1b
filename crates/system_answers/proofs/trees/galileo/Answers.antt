use Rattle.std.proofs.Common.{ℕ, List, sym, subst}
use Rattle.system_answers.specs.Trees.{IsTreeText}
use Rattle.system_answers.proofs.TreeTexts.{galileo_of_target}
use Rattle.system_answers.proofs.trees.galileo.Goals as goal

pub returns : goal.returns
returns c = λ target for.
    subst (λ (text : List ℕ). IsTreeText c.args.system c.args.rates target c.args.tree text) (sym c.new.ensures.text)
    (galileo_of_target c.args.system c.args.tree c.args.rates target for c.new.ensures.sound c.new.ensures.truth)
