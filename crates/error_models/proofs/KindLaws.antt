-- The kinds of an instance one after the other: what is made of them, and the first that is refused.
use Rattle.std.proofs.Common.{ℕ, Bool, cond, suc, ◌+◌, ◌≡◌, ◌<◌, ◌≤◌, List, [], ◌∷◌, length, drop, get_or, map, position, slice_get, Option, Some, None, option_and_then, refl, sym, ap, ◌∙◌, subst, add-one, drop-cons}
use Rattle.std.specs.List.{position_from}
use Rattle.std.specs.Option.{option_or}
use Rattle.std.proofs.lemmas.Iterator.Adapters.{position_from-zero}
use Rattle.component_extension.specs.Chain.{same_id}
use Rattle.package_index.proofs.KnowsLaws.{find-place}
use Rattle.error_models.specs.Below.{classifier_below, kind_among, step_below}
use Rattle.std.proofs.lemmas.List.{drop_all, get_or-map}
use Rattle.aadl_syntax.specs.declared.core_model.PackageUnit.{PackageUnit}
use Rattle.plain_values.specs.declared.refusal.Refusal.{Refusal}
use Rattle.plain_values.specs.declared.refusal.Stop.{Stop}
use Rattle.plain_values.specs.declared.refusal.Stop.TheVariants.{Memory, Refused}
use Rattle.package_index.specs.declared.id.ClassifierId.{ClassifierId}
use Rattle.instantiator.specs.declared.kinds.Kind.{Kind}
use Rattle.plain_values.specs.inner.Stops.{StopsAt}
use Rattle.instantiator.specs.inner.Tables.{kind_of}
use Rattle.error_models.specs.Refused.{first_of}

-- what is made of kinds is made of their classifiers
pub kinds-mapped : {B : Type 0} (packages : List PackageUnit) (f : Kind → B) (h : ClassifierId → B) → ((id : ClassifierId) → f (kind_of packages id) ≡ h id) → (ids : List ClassifierId) → map f (map (kind_of packages) ids) ≡ map h ids
kinds-mapped packages f h same [] = refl
kinds-mapped packages f h same (id ∷ ids) = λ i. same id i ∷ kinds-mapped packages f h same ids i

module _ {A : Type 0} (f : A → Option Refusal) (xs : List A) (i : ℕ) (x : A) (goal : Option Refusal) (within : i < length xs) (is : x ≡ get_or xs i x) (left : first_of (map f (drop i xs)) ≡ goal) where
  here : first_of (map f (drop i xs)) ≡ option_or (f x) (first_of (map f (drop (i + 1) xs)))
  here = ap (λ rest. first_of (map f rest)) (drop-cons xs i x within ∙ ap (λ t. t ∷ drop (suc i) xs) (sym is) ∙ ap (λ n. x ∷ drop n xs) (sym (add-one i)))

  -- one that is not refused
  pub first-step : f x ≡ None → first_of (map f (drop (i + 1) xs)) ≡ goal
  first-step none = sym (here ∙ ap (λ o. option_or o (first_of (map f (drop (i + 1) xs)))) none) ∙ left

  stops : (o : Option Refusal) (stop : Stop) → f x ≡ o → StopsAt o stop → StopsAt goal stop
  stops o Memory is_o stop = tt
  stops o (Refused refusal) is_o stop = sym left ∙ here ∙ ap (λ each. option_or each (first_of (map f (drop (i + 1) xs)))) (is_o ∙ stop)

  -- the first that is refused
  pub first-stop : (stop : Stop) → StopsAt (f x) stop → StopsAt goal stop
  first-stop stop = stops (f x) stop refl

-- all of them
pub first-end : {A : Type 0} (f : A → Option Refusal) (xs : List A) (i : ℕ) (goal : Option Refusal) → length xs ≤ i → first_of (map f (drop i xs)) ≡ goal → goal ≡ None
first-end f xs i goal past left = sym left ∙ ap (λ rest. first_of (map f rest)) (drop_all i xs past)

-- ---- places among kinds

position-mapped : {A B : Type 0} (f : A → B) (p : B → Bool) (n : ℕ) (xs : List A) → position_from p n (map f xs) ≡ position_from (λ x. p (f x)) n xs
position-mapped f p n [] = refl
position-mapped f p n (x ∷ xs) = ap (λ rest. cond (p (f x)) (Some n) rest) (position-mapped f p (n + 1) xs)

-- the kind at the place of a classifier
pub kind-at : (packages : List PackageUnit) (ids : List ClassifierId) (kinds : List Kind) (id : ClassifierId) (place : Option ℕ) → kinds ≡ map (kind_of packages) ids → place ≡ position (λ kind. same_id id kind.classifier) kinds
    → option_and_then (slice_get ids) place ≡ kind_among ids id
kind-at packages ids kinds id place is there =
    let own : Kind → Bool = λ kind. same_id id kind.classifier in
    let whole : position own (map (kind_of packages) ids) ≡ position (same_id id) ids =
    position_from-zero own (map (kind_of packages) ids) ∙ position-mapped (kind_of packages) own 0 ids ∙ sym (position_from-zero (same_id id) ids) in
    ap (option_and_then (slice_get ids)) (there ∙ ap (position own) is ∙ whole) ∙ sym (find-place (same_id id) ids)

-- ---- tests one after the other

-- what is refused first
pub or-stops : (a rest : Option Refusal) (stop : Stop) → StopsAt a stop → StopsAt (option_or a rest) stop
or-stops a rest Memory stop = tt
or-stops a rest (Refused refusal) is = ap (λ o. option_or o rest) is

-- what is refused after what is not
pub none-stops : (a rest : Option Refusal) (stop : Stop) → a ≡ None → StopsAt rest stop → StopsAt (option_or a rest) stop
none-stops a rest stop none is = subst (λ o. StopsAt (option_or o rest) stop) (sym none) is

-- nothing is refused
pub none-or : (a rest : Option Refusal) → a ≡ None → rest ≡ None → option_or a rest ≡ None
none-or a rest none last = ap (λ o. option_or o rest) none ∙ last

-- ---- the item of a kind

-- what is mapped over what is mapped
pub maps : {A B C : Type 0} (f : A → B) (g : B → C) (xs : List A) → map g (map f xs) ≡ map (λ x. g (f x)) xs
maps f g [] = refl
maps f g (x ∷ xs) = ap (λ rest. g (f x) ∷ rest) (maps f g xs)

-- what stands at a place of what is mapped
pub made-at : {A B : Type 0} (f : A → B) (xs : List A) (ys : List B) (i : ℕ) (default : A) (y : B) → ys ≡ map f xs → i < length xs → y ≡ get_or ys i y → y ≡ f (get_or xs i default)
made-at f xs ys i default y is within there = there ∙ ap (λ all. get_or all i y) is ∙ get_or-map f xs i default y within

-- ---- names that lead below

module _ (packages : List PackageUnit) (kinds : List ClassifierId) (current : Option ClassifierId) (path : List (List ℕ)) (i : ℕ) (name : List ℕ) (goal : Option (Option ClassifierId)) (within : i < length path)
    (is : name ≡ get_or path i name) (left : classifier_below packages kinds current (drop i path) ≡ goal) where
  one-more : option_and_then (λ below. classifier_below packages kinds below (drop (i + 1) path)) (step_below packages kinds current name) ≡ goal
  one-more =
      sym (ap (classifier_below packages kinds current) (drop-cons path i name within ∙ ap (λ t. t ∷ drop (suc i) path) (sym is) ∙ ap (λ n. name ∷ drop n path) (sym (add-one i)))) ∙ left

  pub below-step : (next : Option ClassifierId) → Some next ≡ step_below packages kinds current name → classifier_below packages kinds next (drop (i + 1) path) ≡ goal
  below-step next found = ap (option_and_then (λ below. classifier_below packages kinds below (drop (i + 1) path))) found ∙ one-more

  pub below-none : None ≡ step_below packages kinds current name → None ≡ goal
  below-none missing = ap (option_and_then (λ below. classifier_below packages kinds below (drop (i + 1) path))) missing ∙ one-more
