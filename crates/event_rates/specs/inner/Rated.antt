-- An instance with the profile by which its associations are read.
use Rattle.profiles.specs.declared.profile.Profile.{Profile}
use Rattle.instantiator.specs.Whole.{Instance}

-- An instance, and the profile by which its associations are read.
pub record Rated : Type 0 where
  pub profile : Profile
  pub instance : Instance

-- this instance, read by a profile
abbrev pub rated : Profile → Instance → Rated
rated profile instance = record { profile = profile; instance = instance }
