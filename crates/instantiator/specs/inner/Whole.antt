-- Beside specs/Whole.antt: what no clause of `run` reaches.
use Rattle.std.specs.Prelude.{◌≡◌, ◌≢◌, ◌<◌, ℕ, IsSome, List, length, take, fold, slice_get, AllPairs, Some}
use Rattle.aadl_syntax.specs.declared.core_model.PackageUnit.{PackageUnit}
use Rattle.package_index.specs.declared.id.ClassifierId.{ClassifierId}
use Rattle.package_index.specs.Names.{front}
use Rattle.instantiator.specs.declared.path.Component.{Component}
use Rattle.instantiator.specs.Components.{component_at}
use Rattle.instantiator.specs.Whole.{with_kind}

-- ---- kinds

-- Kinds so far, and the packages of which they are.
pub record Kinds : Type 0 where
  pub packages : List PackageUnit
  pub ids : List ClassifierId

-- the kinds with those of these components
abbrev pub with_kinds : Kinds → List Component → Kinds
with_kinds kinds components = record kinds { ids = fold (λ ids component. with_kind ids component.classifier) kinds.ids components }

-- ---- laws

-- No two components have one path.
abbrev pub PathsDiffer : List Component → Type 0
PathsDiffer components = AllPairs (λ a b. a.path ≢ b.path) components

-- The path of each component without its last name is that of an earlier component; the root alone has no name.
abbrev pub ParentsComeFirst : List Component → Type 0
ParentsComeFirst components =
    (number : ℕ) (component : Component) → slice_get components number ≡ Some component → 0 < length component.path → IsSome (component_at (take number components) (front component.path))
