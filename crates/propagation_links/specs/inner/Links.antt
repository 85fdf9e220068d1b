-- Beside specs/Links.antt: what no clause of `run` reaches.
use Rattle.std.specs.Prelude.{◌≡◌, List, ◌++◌, IsTrue}
use Rattle.std.specs.List.{AllByRecursion}
use Rattle.profiles.specs.declared.profile.Profile.{Profile}
use Rattle.profiles.specs.declared.profile.Profile.TheVariants.{First, Second}
use Rattle.propagation_points.specs.Points.{Point}
use Rattle.instantiator.specs.Whole.{Instance}
use Rattle.propagation_links.specs.declared.link.Link.{Link}
use Rattle.propagation_links.specs.Ends.{Pointed, is_there}
use Rattle.propagation_links.specs.Links.{all_links, extra_links, links_of}

-- ---- all links of an instance

-- A link leads from a side that is there to a side that is there.
abbrev pub JoinsSides : Pointed → Link → Type 0
JoinsSides pointed link = IsTrue (is_there pointed link.from) × IsTrue (is_there pointed link.to)

-- All links of an instance with these points do, under a profile.
abbrev pub AllJoinSides : Profile → Instance → List (List Point) → Type 0
AllJoinSides profile instance points = AllByRecursion (JoinsSides (record { instance = instance; points = points })) (links_of profile instance points)

-- ---- profiles

-- The links of the second profile are those of the first, and behind them the extra ones: no link goes, and none changes its place.
abbrev pub OnlyAddsLinks : Instance → List (List Point) → Type 0
OnlyAddsLinks instance points = links_of Second instance points ≡ links_of First instance points ++ extra_links (record { instance = instance; points = points })
