-- Steps of loops that note wrong words.
use Rattle.std.proofs.Common.{ℕ, suc, ◌+◌, ◌≡◌, ◌<◌, List, ◌∷◌, length, drop, get_or, flat_map, Option, sym, ap, ◌∙◌, add-one, drop-cons}
use Rattle.requirement_names.specs.declared.mistake.WrongWord.{WrongWord}
use Rattle.requirement_names.specs.Wrong.{noting}
use Rattle.requirement_names.proofs.Noting.{noted-more}

module _ {A : Type 0} (xs : List A) (i : ℕ) (x : A) (within : i < length xs) (is : x ≡ get_or xs i x) where
  rest-less : drop i xs ≡ x ∷ drop (i + 1) xs
  rest-less = drop-cons xs i x within ∙ ap (λ t. t ∷ drop (suc i) xs) (sym is) ∙ ap (λ n. x ∷ drop n xs) (sym (add-one i))

  -- the wrong words of the items that are left
  pub noting-more : (f : A → List WrongWord) (first next goal : Option WrongWord) → next ≡ noting first (f x) → noting first (flat_map f (drop i xs)) ≡ goal → noting next (flat_map f (drop (i + 1) xs)) ≡ goal
  noting-more f first next goal noted before =
      noted-more first next (f x) (flat_map f (drop (i + 1) xs)) noted ∙ ap (λ left. noting first (flat_map f left)) (sym rest-less) ∙ before
