-- What is found is declared.
use Rattle.std.proofs.Common.{ℕ, ◌≡◌, ◌<◌, Bool, true, false, List, length, nat_lt, slice_get, position, cond, Option, Some, None, Result, Ok, Err, IfSome, IfOk, IsSome, is_some, option_map, option_and_then, ok_or, refl, ap, ◌∙◌, arith, inl, inr}
use Rattle.std.specs.List.{position_or_len}
use Rattle.std.specs.Option.{option_or}
use Rattle.std.proofs.lemmas.Bool.Decides.{nat_tests}
use Rattle.std.proofs.lemmas.Option.{slice_get_cases}
use Rattle.aadl_syntax.specs.declared.core_model.PackageUnit.{PackageUnit}
use Rattle.plain_values.specs.declared.refusal.Code.{Code}
use Rattle.plain_values.specs.declared.refusal.Place.{Place}
use Rattle.package_index.specs.declared.id.ClassifierId.{ClassifierId}
use Rattle.package_index.specs.Lookup.{alias_in, aliased_in, classifier_in, decl_of, declared, declared_by, declared_in, is_named, look_classifier, look_in, package_meant, refused_at}
use Rattle.package_index.specs.Names.{front, last}

if-and_then : {A B : Type 0} (P : B → Type 0) (f : A → Option B) (o : Option A) → ((a : A) → IfSome (f a) P) → IfSome (option_and_then f o) P
if-and_then P f None each = tt
if-and_then P f (Some a) each = each a

if-or : {A : Type 0} (P : A → Type 0) (a b : Option A) → IfSome a P → IfSome b P → IfSome (option_or a b) P
if-or P None b one two = two
if-or P (Some a) b one two = one

if-ok : {A : Type 0} (P : A → Type 0) (o : Option A) (code : Code) → IfSome o P → IfOk (ok_or o code) P
if-ok P None code some = tt
if-ok P (Some a) code some = some

module _ {A : Type 0} (p : A → Bool) (xs : List A) where
  some-within : (i : ℕ) → i < length xs → IsSome (slice_get xs i)
  some-within i within =
      elim (slice_get_cases xs i).1 [
        | inl found ↦ ap is_some found.2
        | inr past ↦ absurd (omega (arith, within, past.0))
      ]

  place-some : (i : ℕ) (b : Bool) → nat_lt i (length xs) ≡ b → IfSome (cond b (Some i) None) (λ place. IsSome (slice_get xs place))
  place-some i true is =
      let within : i < length xs = grind (arith, nat_tests, is) in
      some-within i within
  place-some i false is = tt

  -- what has a place stands there
  position-some : IfSome (position p xs) (λ place. IsSome (slice_get xs place))
  position-some = place-some (position_or_len p xs) (nat_lt (position_or_len p xs) (length xs)) refl

module _ (packages : List PackageUnit) where
  abbrev IsThere : ClassifierId → Type 0
  IsThere id = IsSome (decl_of packages id)

  there-at : (number : ℕ) (unit : PackageUnit) (place : Option ℕ) → slice_get packages number ≡ Some unit → IfSome place (λ d. IsSome (slice_get unit.decls d)) → IfSome (option_map (λ d. record { «package» = number; decl = d }) place) IsThere
  there-at number unit None is some = tt
  there-at number unit (Some d) is some = ap (λ o. is_some (option_and_then (λ u. slice_get u.decls d) o)) is ∙ some

  there-in : (number : ℕ) (name : List ℕ) (item : Option (List ℕ)) (unit : Option PackageUnit) → slice_get packages number ≡ unit → IfSome (option_map (λ d. record { «package» = number; decl = d }) (option_and_then (λ u. declared u name item) unit)) IsThere
  there-in number name item None is = tt
  there-in number name item (Some unit) is = there-at number unit (declared unit name item) is (position-some (is_named name item) unit.decls)

  declared-there : (number : ℕ) (name : List ℕ) (item : Option (List ℕ)) → IfSome (declared_in packages number name item) IsThere
  declared-there number name item = there-in number name item (slice_get packages number) refl

  by-there : (from : Option ℕ) (names : List (List ℕ)) (item : Option (List ℕ)) → IfSome (declared_by packages from names item) IsThere
  by-there from names item =
      if-and_then IsThere (λ number. option_and_then (λ name. declared_in packages number name item) (last names)) (package_meant packages from (front names))
      (λ number. if-and_then IsThere (λ name. declared_in packages number name item) (last names) (λ name. declared-there number name item))

  classifier-there : (number : ℕ) (name : List ℕ) (item : Option (List ℕ)) → IfSome (classifier_in packages number name item) IsThere
  classifier-there number name item =
      if-or IsThere (declared_in packages number name item) (aliased_in packages number name item) (declared-there number name item)
      (if-and_then IsThere (λ names. declared_by packages (Some number) names item) (option_and_then (λ unit. alias_in false unit name) (slice_get packages number)) (λ names. by-there (Some number) names item))

  look-there : (number : Option ℕ) (names : List (List ℕ)) (item : Option (List ℕ)) → IfOk (look_in packages number names item) IsThere
  look-there None names item = tt
  look-there (Some number) names item =
      if-ok IsThere (option_and_then (λ name. classifier_in packages number name item) (last names)) _ (if-and_then IsThere (λ name. classifier_in packages number name item) (last names) (λ name. classifier-there number name item))

refused-there : (P : ClassifierId → Type 0) (place : Place) (found : Result ClassifierId Code) → IfOk found P → IfOk (refused_at place found) P
refused-there P place (Ok id) is = is
refused-there P place (Err code) is = tt

-- what is found has a declaration
pub found-there : (packages : List PackageUnit) (place : Place) (from : Option ℕ) (names : List (List ℕ)) (item : Option (List ℕ)) → IfOk (refused_at place (look_classifier packages from names item)) (λ id. IsSome (decl_of packages id))
found-there packages place from names item =
    refused-there (λ id. IsSome (decl_of packages id)) place (look_classifier packages from names item) (look-there packages (package_meant packages from (front names)) names item)
