-- The first declaration of a name, as a table finds it.
use Rattle.std.proofs.Common.{◌≡◌, ℕ, true, List, Option, option_and_then, option_map, position, slice_get, sym, ap, ◌∙◌}
use Rattle.std.proofs.lemmas.Slice.Eq.{bytes_eq-Decides}
use denote.Ref.{Bor}
use Rattle.plain_values.specs.Name.{is_same_text}
use Rattle.plain_values.specs.declared.spot.Spot.{Spot}
use Rattle.package_index.specs.inner.Tables.{same_text}
use Rattle.package_index.proofs.KnowsLaws.{find-place}
use Rattle.event_origins.specs.Named.{Declaration, spot_named}
use Rattle.event_origins.specs.inner.Named.{has_text}

-- the place where the declaration at a place stands, if there is one
abbrev pub spot_there : List Declaration → Option ℕ → Option Spot
spot_there list place = option_map (λ declaration. declaration.spot) (option_and_then (slice_get list) place)

pub spot_found : (list : List Declaration) (name : Bor (List ℕ)) (place : Option ℕ) → place ≡ position (has_text name) list → spot_there list place ≡ spot_named list name.now
spot_found list name place is = ap (spot_there list) is ∙ ap (option_map (λ declaration. declaration.spot)) (sym (find-place (has_text name) list))

pub name_agrees : (declaration : Declaration) (key other : Bor (List ℕ)) → key.now ≡ declaration.name → has_text other declaration ≡ same_text key other
name_agrees declaration key other is = ap (λ name. is_same_text name other.now) (sym is)

pub name_alike : (key other : Bor (List ℕ)) → same_text key other ≡ true → (declaration : Declaration) → has_text other declaration ≡ has_text key declaration
name_alike key other same declaration = ap (is_same_text declaration.name) (sym ((bytes_eq-Decides key.now other.now).0 same))
