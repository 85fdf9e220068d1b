-- What is bound to what by a binding, and where that is stated.
use Rattle.std.specs.Prelude.{ℕ, Bool, List}
use Rattle.aadl_syntax.specs.declared.core_model.Connection.{Connection}
use Rattle.component_extension.specs.Members.{Member}

-- The references of a binding, and the number of the component that states it: these paths begin there. `further` says that the first profile
-- does not read it: it stands in braces, or is none that is written.
pub record Stated : Type 0 where
  pub component : ℕ
  pub references : List (List (List ℕ))
  pub further : Bool

-- A connection of the component of a number, and the binding that counts for it.
pub record Carried : Type 0 where
  pub component : ℕ
  pub connection : Member Connection
  pub stated : Stated
