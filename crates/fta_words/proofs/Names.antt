-- Names among others.
use Rattle.std.proofs.Common.{◌≡◌, ℕ, Bool, true, false, ◌||◌, List, [], ◌∷◌, map, Bor, refl, ap, subst, inl, inr}
use Rattle.std.specs.Prelude.{Contains}
use Rattle.std.specs.List.{list_any}
use Rattle.std.proofs.lemmas.Bool.{false≢true, or_cases}
use Rattle.std.proofs.lemmas.Slice.Eq.{bytes_eq-Decides}
use Rattle.plain_values.specs.Name.{is_same_text}
use Rattle.fta_words.specs.Table.{is_among}
use Rattle.fta_words.proofs.Places.{first_of, later_of, none_of, one_of}

pub text-is : (a b : List ℕ) → is_same_text a b ≡ true → a ≡ b
text-is a b = (bytes_eq-Decides a b).0

pub text-same : (a b : List ℕ) → a ≡ b → is_same_text a b ≡ true
text-same a b = (bytes_eq-Decides a b).1

-- a name that a test finds is among others
pub has_name : (names : List (List ℕ)) (name : List ℕ) → is_among names name ≡ true → Contains names name
has_name [] name is = absurd (false≢true is)
has_name (first ∷ names) name is = elim (or_cases (is_same_text first name) (is_among names name) is) [
  | inl same ↦ subst (Contains (first ∷ names)) (text-is first name same) (first_of first names)
  | inr there ↦ later_of first name names (has_name names name there)
]

or_first : (a b : Bool) → a ≡ true → (a || b) ≡ true
or_first true b is = refl
or_first false b is = absurd (false≢true is)

or_second : (a b : Bool) → b ≡ true → (a || b) ≡ true
or_second true b is = refl
or_second false b is = is

-- and the test finds a name that is
pub name_has : (names : List (List ℕ)) (name : List ℕ) → Contains names name → is_among names name ≡ true
name_has [] name has = absurd (none_of name has)
name_has (first ∷ names) name has = elim (one_of first name names has) [
  | inl same ↦ or_first (is_same_text first name) (is_among names name) (text-same first name same)
  | inr there ↦ or_second (is_same_text first name) (is_among names name) (name_has names name there)
]

-- names that are lent are tested as they are
pub lent_names : (names : List (Bor (List ℕ))) (name : List ℕ) → list_any (λ (other : Bor (List ℕ)). is_same_text other.now name) names ≡ is_among (map (λ (other : Bor (List ℕ)). other.now) names) name
lent_names [] name = refl
lent_names (first ∷ names) name = ap (λ (t : Bool). is_same_text first.now name || t) (lent_names names name)
