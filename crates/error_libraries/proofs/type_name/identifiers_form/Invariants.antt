use Rattle.std.proofs.Common.{take}
use Rattle.std.specs.List.{AllByRecursion}
use Rattle.aadl_syntax.specs.inner.Token.{IsIdentifier}
use Rattle.error_libraries.proofs.type_name.identifiers_form.Given as goal

abbrev pub invariant-loop-identifier : goal.invariant-loop-identifier
invariant-loop-identifier l = AllByRecursion IsIdentifier (take l.identifier-index l.identifiers)
