-- The groups of refusals of the files of a model: the first in which anything is refused is told.
use Rattle.std.specs.Prelude.{◌≡◌, ◌⊎◌, ℕ, List, [], ◌∷◌, Result, Ok, Err, codes}
use Rattle.plain_values.specs.declared.name.Root.{Root}
use Rattle.plain_values.specs.declared.refusal.Refusal.{Refusal}
use Rattle.aadl_syntax.specs.declared.core_model.PackageUnit.{PackageUnit}
use Rattle.aadl_syntax.specs.declared.core_model.Unit.{Unit as FileUnit}
use Rattle.noted_refusals.specs.Groups.{or_group}
use Rattle.refusal_lines.specs.Text.{refusals_text}
use Rattle.phases.specs.Phases.{Passes, Phase, Stops}
use Rattle.phases.specs.declared.status.Status.TheVariants.{Refused}
use Rattle.package_index.specs.declared.id.ClassifierId.{ClassifierId}
use Rattle.package_index.specs.Duplicates.{duplicates}
use Rattle.package_index.specs.Lookup.{packages_of}
use Rattle.profiles.specs.declared.profile.Profile.{Profile}
use Rattle.model_phases.specs.Groups.{root_group}
use Rattle.model_phases.specs.declared.flat.FlatModel.{FlatModel}
use Rattle.fta_run.specs.Model.{root_named}

-- the group of the model of a root, where its name means a classifier of these packages
abbrev pub named_group : Profile → List PackageUnit → Result ClassifierId Refusal → List Refusal
named_group profile packages (Ok id) = root_group profile packages id
named_group profile packages (Err refusal) = []

-- The group of these files, read by a profile: what is declared again in them (N1), and else that of the model of the root. It is empty where nothing is
-- refused but the name of the root, or the size of the model, which have one refusal alone.
abbrev pub units_group : Profile → Root → List (List FileUnit) → List Refusal
units_group profile root files = or_group (duplicates (packages_of files)) (named_group profile (packages_of files) (root_named files root))

-- The group that is told with a refusal: that of the files that are read so, or the refusal alone where that is empty; and the refusal
-- alone where they are not read.
abbrev pub IsFilesGroup : Phase (List (List FileUnit)) → Profile → Root → Refusal → List Refusal → Type 0
IsFilesGroup units profile root refusal group =
    (Stops units (Refused refusal) × (group ≡ refusal ∷ []))
    ⊎ ((files : List (List FileUnit)) × Passes units files × (group ≡ or_group (units_group profile root files) (refusal ∷ [])))

-- The text of `refusals`: that nothing is refused of the model; or the group that is told with the refusal with which it stops.
abbrev pub TellsRefusals : Phase FlatModel → Phase (List (List FileUnit)) → Profile → Root → List (List ℕ) → List (List ℕ) → List ℕ → Type 0
TellsRefusals model units profile root files texts text =
    ((made : FlatModel) × Passes model made × (text ≡ codes "end\n"))
    ⊎ ((refusal : Refusal) × Stops model (Refused refusal) × (group : List Refusal) × IsFilesGroup units profile root refusal group × (text ≡ refusals_text files texts refusal group))
