use Rattle.std.proofs.Common.{ℕ, ◌≡◌, Result, Ok, Err, Some, OnOk, ap, ◌∙◌, subst}
use Rattle.std.specs.List.{AllByRecursion}
use Rattle.aadl_syntax.specs.inner.Token.{IsIdentifier}
use Rattle.error_libraries.specs.Libraries.{Table}
use Rattle.error_libraries.specs.Printed.{TypeName, name_of}
use Rattle.error_libraries.specs.inner.Printed.{AreIdentifiers}
use Rattle.instantiator.specs.Whole.{Instance}
use Rattle.model_facts.specs.inner.Laws.{AreNamed, IsNamed}
use Rattle.model_facts.proofs.named.are_named.Goals as goal

-- what follows from a fact on Ok
on-ok : {Done Error : Type 0} (P Q : Type 0) (result : Result Done Error) → (P → Q) → OnOk result P → OnOk result Q
on-ok P Q (Ok done) follows is = follows is
on-ok P Q (Err error) follows is = tt

pub returns : goal.returns
returns c =
    let assembly = c.args.assembly.now in
    let components = c.components.ensures.components ∙ ap (λ (instance : Instance). instance.components) c.instance.ensures in
    on-ok _ (AreNamed assembly) c.types_form.result
    (λ types. record {
      paths = subst (λ all. AllByRecursion (λ component. AllByRecursion IsIdentifier component.path) all) components c.components_form.ensures;
      models = subst (AllByRecursion IsNamed) c.models.ensures c.models_form.ensures;
      types = subst (λ (table : Table). (number : ℕ) (name : TypeName) → name_of table number ≡ Some name → AreIdentifiers name) c.types.ensures types;
    }) c.types_form.ensures
