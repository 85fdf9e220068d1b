use Rattle.std.proofs.lemmas.Result.{IfOk-weaker}
use Rattle.zdd_store.specs.inner.Store.{family_of}
use Rattle.system_answers.proofs.Listed.{among_events}
use Rattle.system_answers.proofs.cut_sets.cut_family.Goals as goal

pub returns-clause-among : goal.returns-clause-among
returns-clause-among c =
    let system = c.args.system.now in
    let part = c.args.part.now in
    IfOk-weaker c.family.result _ _
    (λ id exact. among_events system part.target c.args.max_order (family_of c.family.new.store id) part.events exact (λ one minimal. c.in_slice.ensures system part.target part one c.requires minimal))
    c.family.ensures.exact
