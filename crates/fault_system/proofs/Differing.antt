-- Names that differ, up to a place.
use Rattle.std.proofs.Common.{ℕ, ◌+◌, ◌≡◌, ◌≢◌, ◌<◌, List, length, map, take, slice_index_or, All, ◌∙◌, sym, ap, arith, below_more, get_or-take}
use Rattle.std.proofs.lemmas.List.{get_or-map}
use lib.ListN.{length-take, length-map}
use Rattle.fault_system.specs.Systems.{NamesDiffer}

module _ {X : Type 0} (f : X → List ℕ) (items : List X) (i : ℕ) (x : X) (name : List ℕ) (fits : i < length items) (is : x ≡ slice_index_or items i x) (named : name ≡ f x) where
  -- the name at the place, and at one before it
  here : (d : List ℕ) → slice_index_or (map f items) i d ≡ name
  here d = get_or-map f items i x d fits ∙ ap f (sym is) ∙ sym named

  at : (k : ℕ) (d : List ℕ) (e : X) → k < i → slice_index_or (map f items) k d ≡ f (slice_index_or (take i items) k e)
  at k d e h = get_or-map f items k e d (omega arith) ∙ ap f (sym (get_or-take i items k e h))

  pub differ-new : NamesDiffer (map f items) → All (λ item. f item ≢ name) (take i items)
  differ-new differ k e h =
      let below : k < i = omega (arith, length-take i items) in
      λ same. differ k i name below (omega (arith, length-map items f)) (at k name e below ∙ same ∙ sym (here name))

  pub differ-more : ((a b : ℕ) (d : List ℕ) → a < b → b < i → slice_index_or (map f items) a d ≢ slice_index_or (map f items) b d) → All (λ item. f item ≢ name) (take i items)
      → (a b : ℕ) (d : List ℕ) → a < b → b < i + 1 → slice_index_or (map f items) a d ≢ slice_index_or (map f items) b d
  differ-more before new a b d less = λ h. below_more (λ n. a < n → slice_index_or (map f items) a d ≢ slice_index_or (map f items) n d) i
      (λ n k l. before a n d l k)
      (λ l same. new a x (omega (arith, length-take i items)) (sym (at a d x l) ∙ same ∙ here d)) b h less
