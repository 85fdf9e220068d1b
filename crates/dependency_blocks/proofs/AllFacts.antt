-- Lists of facts that have all on which they depend: those of a slice, and all facts.
use Rattle.std.proofs.Common.{ℕ, zero, suc, ◌<◌, ◌↔◌, List, [], ◌∷◌, length, get_or, refl, All, Contains, inl, inr, ⊎_elim, sym, arith}
use Rattle.std.proofs.lemmas.Bool.{cases_eq}
use Rattle.plain_values.specs.Numbered.{numbers_below}
use Rattle.fault_system.specs.Truth.{set_of}
use Rattle.fault_system.specs.Systems.{System, IsSystem}
use Rattle.fault_system.proofs.Elements.{In, In-append, In-back, In-contains, In-front, contains_In}
use Rattle.fault_system.proofs.NumberSets.{RisesWithin-each, contained-in_set, set_of-contained}
use Rattle.fault_system.proofs.Occurrences.{occurs-in_range, fact-in_range}
use Rattle.backward_slice.specs.Slices.{HasItsCauses, IsSlice}
use Rattle.backward_slice.specs.declared.parts.Slice.{Slice}
use Rattle.dependency_blocks.proofs.Passes.{depends_step, depends_then}

pub slice-causes : (system : System) (slice : Slice) → IsSlice system slice.target slice → HasItsCauses system (set_of slice.facts)
slice-causes system slice is n m fact has at o =
    contained-in_set slice.facts m ((is.facts m).1 (depends_then system slice.target n m ((is.facts n).0 (set_of-contained slice.facts n has)) (depends_step system n m fact at o)))

pub slice-ranged : (system : System) (slice : Slice) → IsSlice system slice.target slice → All (λ n. n < length system.facts) slice.facts
slice-ranged system slice is = RisesWithin-each 0 (length system.facts) slice.facts is.facts_rise

-- the numbers below a number
in-below : (count n : ℕ) → n < count → In n (numbers_below count)
in-below zero n h = absurd (omega arith)
in-below (suc count) n h = ⊎_elim
    (λ last. In-back n (numbers_below count) (count ∷ []) (inl (sym last)))
    (λ other. In-front n (numbers_below count) (count ∷ []) (in-below count n (omega (arith, other)))) (cases_eq n count)

below-in : (count n : ℕ) → In n (numbers_below count) → n < count
below-in zero n i = absurd i
below-in (suc count) n i = ⊎_elim
    (λ before. omega (arith, below-in count n before))
    (λ last. ⊎_elim (λ same. omega (arith, same)) (λ none. absurd none) last) (In-append n (numbers_below count) (count ∷ []) i)

-- exactly the numbers below a number are in the list of them
pub below-contained : (count n : ℕ) → Contains (numbers_below count) n ↔ (n < count)
below-contained count n = ((λ c. below-in count n (In-contains n (numbers_below count) c)), (λ h. contains_In n (numbers_below count) (in-below count n h)))

pub all-causes : (system : System) → IsSystem system → HasItsCauses system (set_of (numbers_below (length system.facts)))
all-causes system is n m fact has at o =
    contained-in_set (numbers_below (length system.facts)) m ((below-contained (length system.facts) m).1 (occurs-in_range _ _ m fact.formula (fact-in_range system is n fact at) o))

pub all-ranged : (count : ℕ) → All (λ n. n < count) (numbers_below count)
all-ranged count k d h = below-in count _ (at (numbers_below count) k d h) where
  at : (xs : List ℕ) (k d : ℕ) → k < length xs → In (get_or xs k d) xs
  at [] k d h = absurd (omega arith)
  at (x ∷ xs) zero d h = inl refl
  at (x ∷ xs) (suc k) d h = inr (at xs k d (omega arith))
