use Rattle.std.proofs.Common.{take}
use Rattle.std.specs.List.{AllByRecursion}
use Rattle.aadl_syntax.specs.inner.Token.{IsIdentifier}
use Rattle.model_facts.proofs.named.variants_form.Given as goal

abbrev pub invariant-loop-variant : goal.invariant-loop-variant
invariant-loop-variant l = AllByRecursion (λ variant. IsIdentifier variant.name) (take l.variant-index l.variants)
