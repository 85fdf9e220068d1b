-- The set behind which a page begins is one of events.
use Rattle.std.proofs.Common.{ℕ, List, Option, Some, None, sym, subst}
use Rattle.std.specs.Prelude.{IfSome}
use Rattle.fault_system.specs.CutSets.{IsEventSet}
use Rattle.fault_system.specs.Systems.{System}
use Rattle.phases.specs.Phases.{Passes}
use Rattle.page_tokens.specs.Forms.{Said}
use Rattle.page_tokens.specs.Starts.{IsStart}
use Rattle.system_answers.specs.Texts.{begin_of}

start_events : (system : System) (said : Said) (start : Option (List ℕ)) → IsStart system said start → IfSome start (IsEventSet system)
start_events system said None is = tt
start_events system said (Some set) is = is.1.0

pub begin_events : (key : List ℕ) (after : Option (List ℕ)) (system : System) (start : Option (List ℕ)) → Passes (begin_of key after system) start → IfSome start (IsEventSet system)
begin_events key None system start passes = subst (λ (s : Option (List ℕ)). IfSome s (IsEventSet system)) (sym passes.passed) tt
begin_events key (Some text) system start passes = start_events system passes.passed.0 start passes.passed.2.2
