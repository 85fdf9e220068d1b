use Rattle.std.proofs.Common.{ℕ, List, sym, subst}
use Rattle.system_answers.specs.Trees.{IsMefText}
use Rattle.system_answers.proofs.TreeTexts.{mef_of_target}
use Rattle.system_answers.proofs.trees.exchanged.Goals as goal

pub new-requires-clause-made : goal.new-requires-clause-made
new-requires-clause-made c = c.may_be_written.ensures c.args.system c.args.tree c.requires.made

pub returns : goal.returns
returns c = λ target for.
    subst (λ (text : List ℕ). IsMefText c.args.system c.args.rates target c.args.tree text) (sym c.new.ensures.text)
    (mef_of_target c.args.system c.args.tree c.args.rates target for c.new.ensures.sound c.new.ensures.truth)
