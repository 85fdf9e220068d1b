use Rattle.std.proofs.Common.{sym, ap, ◌∙◌}
use Rattle.component_extension.specs.Chain.{is_among}
use Rattle.component_extension.proofs.ChainSteps.{among-with}
use Rattle.component_extension.proofs.chain.Walked.with.Goals as goal

pub invariant_of-result : goal.invariant_of-result
invariant_of-result c = λ id.
    among-with c.self.inside.ids c.args.id id _ _ _ (c.in_ok-insert.ensures.updates.0 (id.«package», id.decl)) (c.self.invariant id)
    ∙ ap (λ chain. is_among chain id) (sym c.in_ok-push.ensures.ok)
