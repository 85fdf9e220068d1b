-- The set of events for which the words ask.
use Rattle.std.specs.Prelude.{ℕ, List}
use Rattle.std.specs.Option.{option_map_or}
use Rattle.profiles.specs.declared.profile.Profile.{Profile}
use Rattle.profiles.specs.declared.profile.Profile.TheVariants.{First, Second}
use Rattle.fault_system.specs.Systems.{System}
use Rattle.cutset_lister.specs.SetText.{set_text}
use Rattle.requirement_names.specs.Sets.{set_named}

-- the text of the set for which a word asks, as a listing has it: by the second profile the names of its events may stand in any order; a
-- word that names no set stays as it is
abbrev pub set_asked : Profile → List ℕ → System → List ℕ
set_asked First word system = word
set_asked Second word system = option_map_or (set_text system) (set_named system word) word
