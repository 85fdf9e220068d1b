-- Beside specs/Groups.antt: what is noted of the group that is told.
use Rattle.std.specs.Prelude.{List}
use Rattle.plain_values.specs.declared.name.Root.{Root}
use Rattle.plain_values.specs.declared.refusal.Refusal.{Refusal}
use Rattle.aadl_syntax.specs.declared.core_model.Unit.{Unit as FileUnit}
use Rattle.noted_refusals.specs.inner.Noted.{Lists, Noted}
use Rattle.phases.specs.Phases.{Phase}
use Rattle.profiles.specs.declared.profile.Profile.{Profile}
use Rattle.fta_run.specs.Groups.{IsFilesGroup}

-- As many are noted of the group that is told with this refusal of files as there is room for.
abbrev pub ListsFiles : Phase (List (List FileUnit)) → Profile → Root → Noted → Refusal → Type 0
ListsFiles units profile root noted refusal = (group : List Refusal) × IsFilesGroup units profile root refusal group × Lists group noted
