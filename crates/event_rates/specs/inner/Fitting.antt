-- What a table of associations knows.
use Rattle.std.specs.Prelude.{◌≡◌, ℕ, cond, List, Option, Some, option_map}
use Rattle.std.specs.List.{list_any}
use denote.Ref.{Bor}
use Rattle.profiles.specs.declared.profile.Profile.{Profile}
use Rattle.aadl_syntax.specs.declared.error_model.Association.{Association}
use Rattle.package_index.specs.declared.words.Words.{Words}
use Rattle.package_index.specs.Names.{is_same_name}
use Rattle.package_index.specs.inner.Names.{names_of}
use Rattle.event_rates.specs.Associations.{fits, last_fitting}

-- what a table gives
abbrev pub held : Option (Bor Association) → Option Association
held found = option_map (λ association. association.now) found

-- The table gives each target the last association that fits it.
abbrev pub KnowsFitting : Profile → List Association → (Words → Option (Bor Association)) → Type 0
KnowsFitting profile associations table = (words : Words) → held (table words) ≡ last_fitting profile (names_of words) associations

-- The new table has the association at the target, and is else the old one.
abbrev pub PutsAt : (Words → Option (Bor Association)) → (Words → Option (Bor Association)) → List (List ℕ) → Association → Type 0
PutsAt old new target association = (words : Words) → held (new words) ≡ cond (is_same_name target (names_of words)) (Some association) (held (old words))

-- The new table has the association at each of these targets, and is else the old one.
abbrev pub PutsAtEach : (Words → Option (Bor Association)) → (Words → Option (Bor Association)) → List (List (List ℕ)) → Association → Type 0
PutsAtEach old new targets association = (words : Words) → held (new words) ≡ cond (list_any (λ target. is_same_name target (names_of words)) targets) (Some association) (held (old words))

-- The new table has the association wherever it fits, and is else the old one.
abbrev pub AddsAssociation : Profile → (Words → Option (Bor Association)) → (Words → Option (Bor Association)) → Association → Type 0
AddsAssociation profile old new association = (words : Words) → held (new words) ≡ cond (fits profile (names_of words) association) (Some association) (held (old words))
