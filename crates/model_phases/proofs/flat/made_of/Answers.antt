use Rattle.std.proofs.Common.{◌≡◌, ◌∙◌, subst}
use Rattle.phases.specs.inner.Meets.{Meets}
use Rattle.model_facts.specs.Assembly.{Assembly}
use Rattle.model_phases.specs.Phases.{sized}
use Rattle.model_phases.proofs.flat.made_of.Goals as goal

pub returns : goal.returns
returns g c =
    let assembly : Assembly = record { instance = c.args.instance.now; types = c.args.kinds.now.types; models = c.args.kinds.now.models; links = c.args.links.now } in
    let same : c.new-assembly.result ≡ assembly =
    c.new-assembly.ensures ∙ (λ i. record { instance = c.args.instance.now; types = c.args.kinds.now.types; models = c.items.ensures.items i; links = c.items-2.ensures.items i }) in
    subst (λ (its : Assembly). Meets (sized g.M.FromAssembly.phase its) c.sized.result) same c.sized.ensures
