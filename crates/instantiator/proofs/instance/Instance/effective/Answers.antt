use Rattle.std.proofs.Common.{ap, ◌∙◌, option_and_then, option_map, slice_get}
use Rattle.instantiator.specs.Effectives.{effective_of}
use Rattle.instantiator.specs.Whole.{Instance}
use Rattle.instantiator.proofs.instance.Instance.effective.Goals as goal

pub returns : goal.returns
returns c =
    c.effective.ensures ∙ ap (λ (instance : Instance). option_map (effective_of instance.packages) (option_and_then (slice_get instance.kinds) c.kind.result)) c.self.view_is
    ∙ ap (option_map (effective_of c.args.self.now.packages)) c.kind.ensures.there
