use Rattle.std.proofs.Common.{map, take}
use Rattle.std.specs.List.{AllByRecursion}
use Rattle.aadl_syntax.specs.inner.Token.{IsIdentifier}
use Rattle.model_facts.proofs.named.identifiers_form.Given as goal

abbrev pub invariant-loop-name : goal.invariant-loop-name
invariant-loop-name l = AllByRecursion IsIdentifier (map (λ name. name.now) (take l.name-index l.names))
