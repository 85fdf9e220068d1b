use Rattle.std.proofs.lemmas.Result.{IfOk-weaker}
use Rattle.zdd_store.specs.inner.Store.{family_of}
use Rattle.system_answers.proofs.FirstSets.{serves-whole}
use Rattle.system_answers.proofs.fronts.tried_family.Goals as goal

pub returns-clause-serves : goal.returns-clause-serves
returns-clause-serves c =
    IfOk-weaker c.family_in_rounds.result _ _ (λ id exact. serves-whole c.args.asked.now.system.now c.args.asked.now.slice.now.target c.args.asked.now.most (family_of c.family_in_rounds.new.store id) exact) c.family_in_rounds.ensures.exact
