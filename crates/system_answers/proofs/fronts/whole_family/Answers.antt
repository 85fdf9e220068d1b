use Rattle.std.proofs.lemmas.Result.{IfOk-weaker}
use Rattle.zdd_store.specs.inner.Store.{family_of}
use Rattle.system_answers.proofs.FirstSets.{serves-whole}
use Rattle.system_answers.proofs.fronts.whole_family.Goals as goal

pub returns-clause-serves : goal.returns-clause-serves
returns-clause-serves c =
    IfOk-weaker c.family.result _ _ (λ id exact. serves-whole c.args.asked.now.system.now c.args.asked.now.slice.now.target c.args.asked.now.most (family_of c.family.new.store id) exact) c.family.ensures.exact
