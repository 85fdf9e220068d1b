-- How the text of a model is read.
use Rattle.std.specs.Prelude.{Bool, true, false}
use Rattle.profiles.specs.declared.profile.Profile.{Profile}
use Rattle.profiles.specs.declared.profile.Profile.TheVariants.{First, Second}

-- whether this is the first profile
abbrev pub is_first : Profile → Bool
is_first First = true
is_first Second = false
