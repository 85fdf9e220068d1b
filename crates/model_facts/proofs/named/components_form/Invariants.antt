use Rattle.std.proofs.Common.{take}
use Rattle.std.specs.List.{AllByRecursion}
use Rattle.aadl_syntax.specs.inner.Token.{IsIdentifier}
use Rattle.model_facts.proofs.named.components_form.Given as goal

abbrev pub invariant-loop-component : goal.invariant-loop-component
invariant-loop-component l = AllByRecursion (λ component. AllByRecursion IsIdentifier component.path) (take l.component-index l.components)
