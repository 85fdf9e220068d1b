-- How names of reports are read: what private functions say of them.
use Rattle.std.specs.Prelude.{◌≡◌, ◌<◌, ◌↔◌, ℕ, List, [], ◌∷◌, Contains, length}
use Rattle.std.specs.List.{AllByRecursion, join_with_byte}
use Rattle.fta_words.specs.Words.{AreDifferent, IsReport, Rise}

-- no byte is the sign
abbrev pub Without : ℕ → List ℕ → Type 0
Without sign bytes = AllByRecursion (λ byte. byte ≡ sign → ⊥) bytes

-- The text is these pieces with `+` between them.
pub record AreCut (text : List ℕ) (names : List (List ℕ)) : Type 0 where
  pub some_name : 0 < length names
  pub text_is : text ≡ join_with_byte 43 names
  pub no_plus : AllByRecursion (Without 43) names

-- the reports of these names stand at these places
abbrev pub Stand : List (List ℕ) → List (List ℕ) → List ℕ → Type 0
Stand reports [] [] = Unit {0}
Stand reports [] (place ∷ places) = ⊥
Stand reports (name ∷ names) [] = ⊥
Stand reports (name ∷ names) (place ∷ places) = IsReport reports name place × Stand reports names places

-- The text names these places, none of them twice.
pub record NamesPlaces (reports : List (List ℕ)) (text : List ℕ) (places : List ℕ) : Type 0 where
  pub names : List (List ℕ)
  pub cut : AreCut text names
  pub once : AreDifferent names
  pub stand : Stand reports names places

-- The text names no places.
abbrev pub NamesNoPlaces : List (List ℕ) → List ℕ → Type 0
NamesNoPlaces reports text =
    (names : List (List ℕ)) → AreCut text names → AreDifferent names → AllByRecursion (λ name. (place : ℕ) × IsReport reports name place) names → ⊥

-- These are the numbers below a count that are among others, in order.
pub record AreInOrder (count : ℕ) (IsAmong : ℕ → Type 0) (chosen : List ℕ) : Type 0 where
  pub rise : Rise chosen
  pub chosen_are : (place : ℕ) → Contains chosen place ↔ ((place < count) × IsAmong place)
