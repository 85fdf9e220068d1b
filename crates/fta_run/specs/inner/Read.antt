-- What is made of texts that were read, and may be too many or too long.
use Rattle.std.specs.Prelude.{ℕ, List}
use Rattle.plain_values.specs.declared.name.Root.{Root}
use Rattle.aadl_syntax.specs.declared.core_model.Unit.{Unit as FileUnit}
use Rattle.phases.specs.Phases.{Phase, tests, ◌>>=◌}
use Rattle.profiles.specs.declared.profile.Profile.{Profile}
use Rattle.model_phases.specs.declared.flat.FlatModel.{FlatModel}
use Rattle.fta_run.specs.Due.{model_of_texts, units_of, within_limits}
use Rattle.fta_run.specs.Files.{NamesTooMany}

-- these texts, where they are not too many, none too long, and not too long together
abbrev pub few_texts : List (List ℕ) → Phase (List (List ℕ))
few_texts texts = do
  _ ← tests (NamesTooMany texts)
  within_limits texts

-- the units of the files of such texts
abbrev pub units_read : List (List ℕ) → Phase (List (List FileUnit))
units_read texts = do
  few ← few_texts texts
  units_of few

-- the model of the root in the files of such texts, read by a profile, as a system
abbrev pub model_read : Profile → Root → List (List ℕ) → Phase FlatModel
model_read profile root texts = do
  few ← few_texts texts
  model_of_texts profile root few
