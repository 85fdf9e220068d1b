-- The laws of names for the model of a root.
use Rattle.std.proofs.Common.{ℕ, ◌≡◌, List, [], length, Option, Some, None, IsSome, refl, sym, ap, ◌∙◌, arith}
use Rattle.std.specs.List.{AllByRecursion}
use Rattle.std.specs.Option.{option_map_or}
use Rattle.std.proofs.lemmas.Bool.{false≢true}
use Rattle.plain_values.specs.Order.{IsClear}
use Rattle.profiles.specs.declared.profile.Profile.{Profile}
use Rattle.aadl_syntax.specs.declared.core_model.PackageUnit.{PackageUnit}
use Rattle.package_index.specs.declared.id.ClassifierId.{ClassifierId}
use Rattle.package_index.specs.Duplicates.{IsDuplicate}
use Rattle.error_libraries.specs.Libraries.{table_of}
use Rattle.error_libraries.specs.Printed.{TypeName, name_of, printed}
use Rattle.error_libraries.specs.Search.{is_number_in}
use Rattle.error_libraries.proofs.PrintedLaws.{named-all, print-apart}
use Rattle.instantiator.specs.Whole.{classifier_at, kind_number}
use Rattle.instantiator.proofs.Apart.{each-all, each-map}
use Rattle.instantiator.proofs.PathLaws.{paths-differ}
use Rattle.error_models.specs.declared.model.ErrorModel.{ErrorModel}
use Rattle.error_models.specs.Models.{model_of}
use Rattle.model_facts.specs.Assembly.{Assembly, assembly_of, declared_numbers, kind_model, model_at, no_model, universe_of}
use Rattle.model_facts.specs.inner.Laws.{AreNamed, EventNamesDiffer, FactNamesDiffer, IsNamed}
use Rattle.model_facts.proofs.NameLaws.{PrintsApart, event-names-differ, fact-names-differ}
use Rattle.model_facts.proofs.RowLaws.{each-or, rising-filter}
use Rattle.model_facts.proofs.ShapeLaws.{IsShaped, model-shaped, none-shaped}

-- ---- models of components

-- what holds of each model, and of none, holds of that of a component
kind-so : (P : ErrorModel → Type 0) → P no_model → (models : List ErrorModel) → AllByRecursion P models → (kind : Option ℕ) → P (kind_model models kind)
kind-so P none models each None = none
kind-so P none models each (Some kind) = each-or P no_model none models kind each

none-named : IsNamed no_model
none-named = record { points = tt; states = tt; events = tt; flows = tt }

pub model-named : (assembly : Assembly) → AreNamed assembly → (n : ℕ) → IsNamed (model_at assembly n)
model-named assembly named n = kind-so IsNamed none-named assembly.models named.models (kind_number assembly.instance.kinds (classifier_at assembly.instance n))

-- ---- the model of a root

module _ (profile : Profile) (packages : List PackageUnit) (root : ClassifierId) where
  abbrev assembly : Assembly
  assembly = assembly_of profile packages root

  model-at-shaped : (n : ℕ) → IsShaped (length assembly.types.types) (model_at assembly n)
  model-at-shaped n =
      kind-so (IsShaped (length assembly.types.types)) (none-shaped (length assembly.types.types)) assembly.models
      (each-map (IsShaped (length assembly.types.types)) (model_of (table_of profile packages) assembly.instance.kinds) assembly.instance.kinds
      (each-all (λ id. IsShaped (length assembly.types.types) (model_of (table_of profile packages) assembly.instance.kinds id)) (model-shaped (table_of profile packages) assembly.instance.kinds) assembly.instance.kinds))
      (kind_number assembly.instance.kinds (classifier_at assembly.instance n))

  some-name : (found : Option TypeName) → IsSome found → (name : TypeName) × (found ≡ Some name)
  some-name None there = absurd (false≢true there)
  some-name (Some name) there = (name, refl)

  prints : IsClear (IsDuplicate packages) → AreNamed assembly → PrintsApart (table_of profile packages)
  prints clear named a b less within same =
      let first = some-name (name_of (table_of profile packages) a) ((named-all profile packages a).1 (omega (arith, less, within))) in
      let second = some-name (name_of (table_of profile packages) b) ((named-all profile packages b).1 within) in
      let texts : printed first.0 ≡ printed second.0 =
      sym (ap (λ found. option_map_or printed found []) first.1) ∙ same ∙ ap (λ found. option_map_or printed found []) second.1 in
      let one = print-apart profile packages clear a b first.0 second.0 first.1 second.1 (named.types a first.0 first.1) (named.types b second.0 second.1) texts in
      omega (arith, one, less)

  pub root-facts-differ : FactNamesDiffer profile packages root
  root-facts-differ clear named =
      fact-names-differ assembly named (paths-differ packages root) (prints clear named) model-at-shaped (model-named assembly named) (universe_of assembly)
      (rising-filter (is_number_in (declared_numbers assembly.models)) (length assembly.types.types))

  pub root-events-differ : EventNamesDiffer profile packages root
  root-events-differ clear named = event-names-differ assembly named (paths-differ packages root) (prints clear named) model-at-shaped (model-named assembly named)
