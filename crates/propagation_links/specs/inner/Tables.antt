-- What the tables of bindings know.
use Rattle.std.specs.Prelude.{◌≡◌, ℕ, Bool, true, false, ◌||◌, cond, List, [], ◌∷◌, Option, Some, None, option_map}
use Rattle.std.specs.List.{list_any}
use denote.Ref.{Bor}
use Rattle.aadl_syntax.specs.declared.core_model.Binding.{Binding}
use Rattle.aadl_syntax.specs.declared.core_model.BindingKind.{BindingKind}
use Rattle.aadl_syntax.specs.declared.core_model.BindingKind.TheVariants.{Connection as OfConnection}
use Rattle.aadl_syntax.specs.declared.core_model.PackageUnit.{PackageUnit}
use Rattle.package_index.specs.declared.id.ClassifierId.{ClassifierId}
use Rattle.package_index.specs.declared.words.Words.{Words}
use Rattle.package_index.specs.Names.{is_same_name}
use Rattle.package_index.specs.inner.Names.{names_of}
use Rattle.instantiator.specs.Components.{component_below}
use Rattle.instantiator.specs.Effectives.{effective_of}
use Rattle.instantiator.specs.Whole.{Instance, effective_in}
use Rattle.propagation_links.specs.Bound.{bindings_by, binds, is_of, last_binding}

-- what a table gives
abbrev pub held : Option (Bor Binding) → Option Binding
held found = option_map (λ binding. binding.now) found

-- The table gives each target the last of these bindings that binds it.
abbrev pub KnowsBindings : BindingKind → List Binding → (Words → Option (Bor Binding)) → Type 0
KnowsBindings kind bindings table = (words : Words) → held (table words) ≡ last_binding kind (names_of words) bindings

-- The new table has the binding at the target, and is else the old one.
abbrev pub PutsAt : (Words → Option (Bor Binding)) → (Words → Option (Bor Binding)) → List (List ℕ) → Binding → Type 0
PutsAt old new target binding = (words : Words) → held (new words) ≡ cond (is_same_name target (names_of words)) (Some binding) (held (old words))

-- The new table has the binding wherever it binds, and is else the old one.
abbrev pub AddsBinding : BindingKind → (Words → Option (Bor Binding)) → (Words → Option (Bor Binding)) → Binding → Type 0
AddsBinding kind old new binding = (words : Words) → held (new words) ≡ cond (binds kind (names_of words) binding) (Some binding) (held (old words))

-- the bindings of a classifier, in braces or in sections as is asked
abbrev pub kind_bindings : Bool → List PackageUnit → ClassifierId → List Binding
kind_bindings braced packages id = bindings_by braced (effective_of packages id)

-- whether the component of a number has a binding of connections, in braces or in sections as is asked
abbrev pub any_by : Bool → Instance → ℕ → Bool
any_by braced instance number = list_any (is_of OfConnection) (bindings_by braced (effective_in instance number))

-- whether it has any
abbrev pub any_in : Instance → ℕ → Bool
any_in instance number = any_by false instance number || any_by true instance number

-- whether a component on the way along a path has one, from the one of this number on
abbrev pub any_along : Instance → Option ℕ → List (List ℕ) → Bool
any_along instance None path = false
any_along instance (Some number) [] = any_in instance number
any_along instance (Some number) (name ∷ path) = any_in instance number || any_along instance (component_below instance.components number (name ∷ [])) path
