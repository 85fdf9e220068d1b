-- Pieces of a message, fed one after the other.
use Rattle.std.proofs.Common.{◌≡◌, ◌<◌, ℕ, suc, List, [], ◌∷◌, ◌++◌, length, take, slice_index_or, sym, ap, ◌∙◌, append-nil, append_assoc, subst}
use Rattle.std.specs.List.{flat_map}
use Rattle.std.proofs.Math.Seq.{take-suc}
use Rattle.std.proofs.lemmas.List.Concat.{flat_map-append}

module _ {H : Type 0} (Holds : H → List ℕ → Type 0) where
  -- one piece, and then another one
  pub fed_two : (h : H) (m a b : List ℕ) → Holds h ((m ++ a) ++ b) → Holds h (m ++ (a ++ b))
  fed_two h m a b holds = subst (Holds h) (append_assoc m a b) holds

  -- one piece of a list more
  pub fed_more : {A : Type 0} (piece : A → List ℕ) (xs : List A) (i : ℕ) (d : A) (h : H) (m : List ℕ) → i < length xs → Holds h ((m ++ flat_map piece (take i xs)) ++ piece (slice_index_or xs i d)) → Holds h (m ++ flat_map piece (take (suc i) xs))
  fed_more piece xs i d h m less holds =
      let more : flat_map piece (take (suc i) xs) ≡ flat_map piece (take i xs) ++ piece (slice_index_or xs i d) =
      ap (flat_map piece) (take-suc xs i d less) ∙ flat_map-append piece (take i xs) (slice_index_or xs i d ∷ []) ∙ ap (λ t. flat_map piece (take i xs) ++ t) (append-nil (piece (slice_index_or xs i d)))
      in subst (λ t. Holds h (m ++ t)) (sym more) (fed_two h m (flat_map piece (take i xs)) (piece (slice_index_or xs i d)) holds)
