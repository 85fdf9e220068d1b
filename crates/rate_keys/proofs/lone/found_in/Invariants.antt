use Rattle.std.proofs.Common.{map, take}
use denote.Ref.{Bor}
use Rattle.std.specs.HashMap.{get}
use Rattle.aadl_syntax.specs.declared.error_model.Transition.{Transition}
use Rattle.package_index.specs.inner.Tables.{same_text}
use Rattle.rate_keys.specs.inner.Found.{KnowsFound}
use Rattle.rate_keys.proofs.lone.found_in.Given as goal

abbrev pub invariant-loop-transition : goal.invariant-loop-transition
invariant-loop-transition l = KnowsFound l.events (map (λ (transition : Bor Transition). transition.now) (take l.transition-index l.transitions)) (get same_text l.found)
