use Rattle.std.proofs.Common.{◌≡◌, ◌++◌, map, take}
use denote.Ref.{Bor}
use Rattle.aadl_syntax.specs.declared.error_model.Transition.{Transition}
use Rattle.rate_keys.proofs.texts.add_all.Given as goal

abbrev pub invariant-loop-transition : goal.invariant-loop-transition
invariant-loop-transition l = map (λ (transition : Bor Transition). transition.now) l.transitions ≡ map (λ (transition : Bor Transition). transition.now) l.fn.transitions ++ take l.transition-index l.all
