use Rattle.phases.specs.inner.Meets.{IsMemory}
use Rattle.phases.specs.inner.Stopped.{status_of}
use Rattle.phases.specs.Phases.{tests}
use Rattle.phases.proofs.Steps.{ends, exits}
use Rattle.fact_formulas.specs.Flat.{size_refusal}
use Rattle.model_phases.specs.Phases.{sized}
use Rattle.model_phases.specs.Tests.{IsIt}
use Rattle.model_phases.proofs.Tested.{behind, none_passes, one_stops}
use Rattle.model_phases.proofs.flat.sized.Goals as goal

pub returns-in_err-model : goal.returns-in_err-model
returns-in_err-model g c =
    let assembly = c.args.assembly.now in
    let stop = c.in_err-model.field-0.0 in
    exits IsMemory (λ made. made) (sized g.M.FromAssembly.phase assembly) (status_of stop) c.from_residual.result c.from_residual.ensures.1 (ends (one_stops (size_refusal assembly) stop c.in_err-model.ensures.refused))

pub returns : goal.returns
returns g c =
    let assembly = c.args.assembly.now in
    behind (λ made. made) (tests (IsIt (size_refusal assembly))) (g.M.FromAssembly.phase assembly) c.of.result (none_passes (size_refusal assembly) c.in_ok-model.ensures.accepted) c.of.ensures
