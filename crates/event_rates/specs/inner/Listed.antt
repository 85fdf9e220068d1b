-- Associations with the profile by which they are read.
use Rattle.std.specs.Prelude.{List, [], Option, None, Some}
use Rattle.profiles.specs.declared.profile.Profile.{Profile}
use Rattle.aadl_syntax.specs.declared.error_model.Association.{Association}

-- The associations of a text, in order, and the profile by which they are read.
pub record Listed : Type 0 where
  pub profile : Profile
  pub list : List Association

-- these associations, read by a profile
abbrev pub listed : Profile → List Association → Listed
listed profile list = record { profile = profile; list = list }

-- the associations, if there are some
abbrev pub associations_in : Option Listed → List Association
associations_in None = []
associations_in (Some table) = table.list
