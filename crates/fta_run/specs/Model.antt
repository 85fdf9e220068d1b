-- The root in the packages of the files.
use Rattle.std.specs.Prelude.{List, None, Result}
use Rattle.aadl_syntax.specs.declared.core_model.Unit.{Unit as FileUnit}
use Rattle.plain_values.specs.declared.name.Root.{Root}
use Rattle.plain_values.specs.declared.refusal.Place.TheVariants.{Words}
use Rattle.plain_values.specs.declared.refusal.Refusal.{Refusal}
use Rattle.package_index.specs.Duplicates.{IsDuplicate}
use Rattle.package_index.specs.Lookup.{look_classifier, packages_of, refused_at}
use Rattle.package_index.specs.declared.id.ClassifierId.{ClassifierId}

-- N1: a package of a name, or a classifier of a name in a package, is declared again.
abbrev pub HasDuplicate : List (List FileUnit) → Refusal → Type 0
HasDuplicate files = IsDuplicate (packages_of files)

-- the classifier that the root names in the packages of the files; or N2, its package is not found, or N3, it is not
abbrev pub root_named : List (List FileUnit) → Root → Result ClassifierId Refusal
root_named files root = refused_at Words (look_classifier (packages_of files) None root.names root.item)
