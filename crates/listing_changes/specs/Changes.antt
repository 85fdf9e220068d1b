-- What changed between the minimal cut sets of a target in two systems, by the names of the events, and the text that tells it.
use Rattle.std.specs.Prelude.{ℕ, ◌≡◌, ◌&&◌, not, Bool, List, [], ◌∷◌, ◌++◌, codes, decimal, filter, length, map, Option}
use Rattle.std.specs.List.{flat_map, list_all, list_any}
use Rattle.plain_values.specs.Name.{is_same_text}
use Rattle.fault_system.specs.Systems.{System, event_name}
use Rattle.fault_system.specs.Listings.{IsListing}
use Rattle.cutset_lister.specs.SetText.{set_text}

-- the names of the events of a set
abbrev pub names_of : System → List ℕ → List (List ℕ)
names_of system set = map (event_name system) set

-- whether each of some names is among others
abbrev pub are_among : List (List ℕ) → List (List ℕ) → Bool
are_among names others = list_all (λ name. list_any (is_same_text name) others) names

-- whether a set of the one system has the same names as a set of the other
abbrev pub have_same_names : System → List ℕ → System → List ℕ → Bool
have_same_names here set there other =
    are_among (names_of here set) (names_of there other) && are_among (names_of there other) (names_of here set)

-- whether a set of the one system has the same names as one of some sets of the other
abbrev pub is_matched : System → System → List (List ℕ) → List ℕ → Bool
is_matched here there others set = list_any (have_same_names here set there) others

-- of some sets of the one system, those whose names no set of the other has, in their order
unfoldable pub unmatched : System → System → List (List ℕ) → List (List ℕ) → List (List ℕ)
unmatched here there others sets = filter (λ set. not (is_matched here there others set)) sets

-- the line of a set: a word, its order, and its text as a listing has it
abbrev pub change_line : List ℕ → System → List ℕ → List ℕ
change_line word system set = word ++ (decimal (length set) ++ (32 ∷ set_text system set ++ (10 ∷ [])))

-- the lines of some sets, one after the other
unfoldable pub change_lines : List ℕ → System → List (List ℕ) → List ℕ
change_lines word system sets = flat_map (change_line word system) sets

-- the last line: how many sets are gone, and how many are new
abbrev pub end_line : ℕ → ℕ → List ℕ
end_line gone new = codes "end gone " ++ (decimal gone ++ (codes " new " ++ (decimal new ++ (10 ∷ []))))

-- the text for two listings: the sets that the older one alone has, those that the newer one alone has, and how many
abbrev pub changes_text : System → List (List ℕ) → System → List (List ℕ) → List ℕ
changes_text older before newer after =
    let gone = unmatched older newer after before in
    let new = unmatched newer older before after in
    change_lines (codes "gone ") older gone ++ (change_lines (codes "new ") newer new ++ end_line (length gone) (length new))

-- The text tells what changed from the minimal cut sets of a target of the older system to those of a target of the newer one, of
-- at most so many events where a greatest order is given.
pub record TellsChanges (older : System) (older_target : ℕ) (newer : System) (newer_target : ℕ) (most : Option ℕ) (text : List ℕ) : Type 0 where
  pub before : List (List ℕ)
  pub after : List (List ℕ)
  pub before_is : IsListing older older_target most before
  pub after_is : IsListing newer newer_target most after
  pub text_is : text ≡ changes_text older before newer after
