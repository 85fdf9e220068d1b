-- Steps of loops over lists that note refusals.
use Rattle.std.proofs.Common.{ℕ, suc, ◌+◌, ◌≡◌, ◌<◌, ◌≤◌, List, ◌∷◌, length, drop, get_or, flat_map, sym, ap, ◌∙◌, add-one, drop-cons}
use Rattle.std.proofs.lemmas.List.{drop_all}
use Rattle.plain_values.specs.declared.refusal.Refusal.{Refusal}
use Rattle.noted_refusals.specs.inner.Noted.{Noted, noting}
use Rattle.noted_refusals.proofs.Laws.{noted-more}

module _ {A : Type 0} (xs : List A) (i : ℕ) (x : A) (within : i < length xs) (is : x ≡ get_or xs i x) where
  rest-less : drop i xs ≡ x ∷ drop (i + 1) xs
  rest-less = drop-cons xs i x within ∙ ap (λ t. t ∷ drop (suc i) xs) (sym is) ∙ ap (λ n. x ∷ drop n xs) (sym (add-one i))

  -- the refusals of the items that are left
  pub noting-more : (f : A → List Refusal) (first next goal : Noted) → next ≡ noting first (f x) → noting first (flat_map f (drop i xs)) ≡ goal → noting next (flat_map f (drop (i + 1) xs)) ≡ goal
  noting-more f first next goal noted before =
      noted-more first next (f x) (flat_map f (drop (i + 1) xs)) noted ∙ ap (λ left. noting first (flat_map f left)) (sym rest-less) ∙ before

pub noting-end : {A : Type 0} (xs : List A) (i : ℕ) (f : A → List Refusal) (first goal : Noted) → length xs ≤ i → noting first (flat_map f (drop i xs)) ≡ goal → first ≡ goal
noting-end xs i f first goal past noted = ap (λ left. noting first (flat_map f left)) (sym (drop_all i xs past)) ∙ noted
