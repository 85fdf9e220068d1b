-- What the functions that find where a component is felt owe each other.
use Rattle.std.specs.Prelude.{ℕ, ◌≡◌, ◌<◌, ◌==◌, ◌&&◌, Bool, not, nat_lt, List, [], ◌++◌, filter, length, map, slice_index_or}
use Rattle.propagation_links.specs.declared.link.Link.{Link}

-- the components to which links lead from that of a number, one for each link
abbrev pub targets_of : List Link → ℕ → List ℕ
targets_of links number = map (λ link. link.to.component) (filter (λ link. link.from.component == number) links)

-- the components to which links lead were added to the list of each, where there is one
pub record AddsTargets (links : List Link) (old new : List (List ℕ)) : Type 0 where
  pub size : length new ≡ length old
  pub added : (k : ℕ) → k < length old → slice_index_or new k [] ≡ slice_index_or old k [] ++ targets_of links k

-- for each component below a count, the components to which links lead from it
pub record AreTargets (count : ℕ) (links : List Link) (lists : List (List ℕ)) : Type 0 where
  pub size : length lists ≡ count
  pub each : (k : ℕ) → k < count → slice_index_or lists k [] ≡ targets_of links k

-- whether a number is below a count, and is not the one number
abbrev pub is_other : ℕ → ℕ → ℕ → Bool
is_other count number other = nat_lt other count && not (other == number)
