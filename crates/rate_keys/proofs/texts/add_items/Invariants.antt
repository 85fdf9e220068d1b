use Rattle.std.proofs.Common.{◌≡◌, ◌++◌, map, take}
use denote.Ref.{Bor}
use Rattle.aadl_syntax.specs.declared.error_model.Transition.{Transition}
use Rattle.rate_keys.proofs.texts.add_items.Given as goal

abbrev pub invariant-loop-scoped : goal.invariant-loop-scoped
invariant-loop-scoped l = map (λ (transition : Bor Transition). transition.now) l.transitions ≡ map (λ (transition : Bor Transition). transition.now) l.fn.transitions ++ map (λ scoped. scoped.item) (take l.scoped-index l.all)
