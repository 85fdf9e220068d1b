-- The families of the sets of each size.
use Rattle.std.proofs.Common.{◌≡◌, ℕ, zero, suc, ◌+◌, ◌<◌, ◌≤◌, List, [], ◌∷◌, ◌++◌, length, length-append, slice_index_or, refl, sym, ap, ◌∙◌, subst, arith, eqb-true, inl, inr, append_assoc, append-nil}
use Rattle.std.specs.List.{flat_map}
use Rattle.std.specs.Prelude.{◌==◌}
use Rattle.fault_system.proofs.Elements.{In, In-filter}
use Rattle.zdd_store.specs.inner.Family.{Family}
use Rattle.zdd_store.specs.inner.Answers.{sets_of}
use Rattle.zdd_store.specs.inner.Store.{Families, IsIn, IsSound, Keeps, family_at, family_of}
use Rattle.zdd_store.specs.declared.id.Id.{Id}
use Rattle.zdd_families.proofs.Ways.{Keeps_trans}
use Rattle.zdd_families.proofs.Sizing.{Keeps_is}
use Rattle.cutset_lister.specs.inner.Listed.{listed}
use Rattle.cutset_lister.specs.inner.Trails.{greatest_size}
use Rattle.cutset_lister.specs.inner.Walks.{AreSizes}
use Rattle.cutset_lister.proofs.Sorted.{listed_more}

-- one size more
pub sizes-push : (store : Families) (family : Family) (size next : ℕ) (ids : List Id) (id : Id) → next ≡ size + length ids
    → AreSizes store family size ids → IsIn store id → family_of store id ≡ sets_of next family → AreSizes store family size (ids ++ id ∷ [])
sizes-push store family size next [] id at sizes here is = (here, subst (λ n. family_of store id ≡ sets_of n family) (omega arith) is, tt)
sizes-push store family size next (x ∷ xs) id at sizes here is = (sizes.0, sizes.1, sizes-push store family (size + 1) next xs id (omega arith) sizes.2 here is)

-- in a store that grew they are the same
pub sizes-kept : (before after : Families) (family : Family) (size : ℕ) (ids : List Id) → Keeps before after → AreSizes before family size ids → AreSizes after family size ids
sizes-kept before after family size [] kept sizes = tt
sizes-kept before after family size (x ∷ xs) kept sizes =
    (let here = sizes.0 in let more = kept.more in omega arith, kept.same x.position sizes.0 ∙ sizes.1, sizes-kept before after family (size + 1) xs kept sizes.2)

-- the family at a place
pub sizes-at : (store : Families) (family : Family) (size : ℕ) (ids : List Id) (place : ℕ) (d : Id) → AreSizes store family size ids → place < length ids
    → IsIn store (slice_index_or ids place d) × (family_of store (slice_index_or ids place d) ≡ sets_of (size + place) family)
sizes-at store family size [] place d sizes h = absurd (omega arith)
sizes-at store family size (x ∷ xs) zero d sizes h = (sizes.0, subst (λ n. family_of store x ≡ sets_of n family) (omega arith) sizes.1)
sizes-at store family size (x ∷ xs) (suc k) d sizes h =
    let rest = sizes-at store family (size + 1) xs k d sizes.2 (omega arith) in
    (rest.0, subst (λ n. family_of store (slice_index_or xs k d) ≡ sets_of n family) (omega arith) rest.1)

-- the families of the sizes so far
pub record SizesSoFar (before now : Families) (family : Id) (size : ℕ) (ids : List Id) : Type 0 where
  pub kept : Keeps before now
  pub sizes : AreSizes now (family_of before family) 0 ids
  pub count : length ids ≡ size

pub no_sizes : (store : Families) (family : Id) (ids : List Id) → ids ≡ [] → SizesSoFar store store family 0 ids
no_sizes store family ids is = record { kept = Keeps_is store store refl; sizes = subst (AreSizes store (family_of store family) 0) (sym is) tt; count = ap length is }

pub more_sizes : (before middle now : Families) (family id : Id) (size : ℕ) (ids new : List Id) → IsIn before family → SizesSoFar before middle family size ids → Keeps middle now → IsIn now id
    → family_of now id ≡ sets_of size (family_of middle family) → new ≡ ids ++ id ∷ [] → SizesSoFar before now family (size + 1) new
more_sizes before middle now family id size ids new here so_far kept found is new_is = record {
  kept = Keeps_trans before middle now so_far.kept kept;
  sizes =
      subst (AreSizes now (family_of before family) 0) (sym new_is)
      (sizes-push now (family_of before family) 0 size ids id (let c = so_far.count in omega arith) (sizes-kept middle now (family_of before family) 0 ids kept so_far.sizes) found
      (is ∙ ap (sets_of size) (so_far.kept.same family.position here)));
  count = let c = so_far.count in omega (arith, ap length new_is, length-append ids (id ∷ []));
}

-- the families of the sizes together are the sets of all these sizes
sizes_listed : (store : Families) (family : Family) (size : ℕ) (ids : List Id) → AreSizes store family size ids → listed size family ++ flat_map (family_of store) ids ≡ listed (size + length ids) family
sizes_listed store family size [] sizes = append-nil (listed size family) ∙ ap (λ n. listed n family) (omega arith)
sizes_listed store family size (x ∷ xs) sizes =
    sym (append_assoc (listed size family) (family_of store x) (flat_map (family_of store) xs))
    ∙ ap (λ f. (listed size family ++ f) ++ flat_map (family_of store) xs) sizes.1
    ∙ ap (λ f. f ++ flat_map (family_of store) xs) (listed_more size family)
    ∙ sizes_listed store family (size + 1) xs sizes.2
    ∙ ap (λ n. listed n family) (omega arith)

none_first : (family sets : Family) → listed 0 family ++ sets ≡ sets
unfolding listed
none_first family sets = refl

pub all_listed_sizes : (store : Families) (family : Family) (most : ℕ) (ids : List Id) → AreSizes store family 0 ids → length ids ≡ most + 1 → flat_map (family_of store) ids ≡ listed (most + 1) family
all_listed_sizes store family most ids sizes count = sym (none_first family (flat_map (family_of store) ids)) ∙ sizes_listed store family 0 ids sizes ∙ ap (λ n. listed n family) (omega arith)

-- no set of a size is greater
pub size-most : (family : Family) (size : ℕ) → ((set : List ℕ) → In set family → length set ≤ size) → greatest_size family ≤ size
unfolding greatest_size
size-most [] size few = omega arith
size-most (s ∷ ss) size few =
    let rest : greatest_size ss ≤ size = size-most ss size (λ set here. few set (inr here)) in
    let first : length s ≤ size = few s (inl refl) in
    omega arith

pub sets_of-size : (size : ℕ) (family : Family) (set : List ℕ) → In set (sets_of size family) → length set ≡ size
unfolding sets_of
sets_of-size size family set i = eqb-true (length set) size (In-filter (λ s. length s == size) set family i).1

pub sets_of-most : (size : ℕ) (family part : Family) → part ≡ sets_of size family → greatest_size part ≤ size
sets_of-most size family part is = subst (λ f. greatest_size f ≤ size) (sym is) (size-most (sets_of size family) size (λ set here. let same = sets_of-size size family set here in omega arith))

pub none-most : (store : Families) (size position : ℕ) → IsSound store → position ≡ 0 → greatest_size (family_at store position) ≤ size
unfolding greatest_size
none-most store size position sound is = subst (λ f. greatest_size f ≤ size) (sym (ap (family_at store) is ∙ sound.empty)) (omega arith)
