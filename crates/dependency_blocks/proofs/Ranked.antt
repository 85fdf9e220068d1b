-- The ranks of what facts depend on are the numbers of their blocks.
use Rattle.std.proofs.Common.{ℕ, ◌≡◌, ◌<◌, Bool, List, [], length, map, slice_index_or, All, Contains, refl, ap, ◌∙◌, sym, subst, arith}
use Rattle.std.proofs.lemmas.List.{get_or-map}
use Rattle.fault_system.specs.Truth.{Has, member, set_of}
use Rattle.fault_system.specs.Systems.{System}
use Rattle.fault_system.proofs.Marks.{same_marks}
use Rattle.fault_system.proofs.NumberSets.{contained-in_set, set_of-contained}
use Rattle.backward_slice.specs.Slices.{DependsOn, HasItsCauses}
use Rattle.dependency_blocks.specs.Blocks.{number_of, IsBlocks}
use Rattle.dependency_blocks.specs.inner.Checks.{HasNumbers, IsTable}
use Rattle.dependency_blocks.specs.inner.Reach.{HaveReaches, IsReach, rank_of}
use Rattle.dependency_blocks.proofs.Passes.{depends_self, depends_then, depends_step}
use Rattle.dependency_blocks.proofs.Sets.{before-within, rank-at_most, rank-same, rank-small}

-- a fact of the list is in range if all are
pub contained-ranged : (facts : List ℕ) (bound n : ℕ) → All (λ m. m < bound) facts → Contains facts n → n < bound
contained-ranged facts bound n all (k, fits, is) = subst (λ m. m < bound) is (all k n fits)

-- what was found for a set is what is asked for a list
pub have-reaches : (system : System) (facts : List ℕ) (wanted : List Bool) (reaches : List (List Bool)) → All (λ n. n < length system.facts) facts → ((n : ℕ) → member wanted n ≡ set_of facts n) → length reaches ≡ length system.facts
    → ((n : ℕ) → n < length system.facts → Has (member wanted) n → IsReach system n (slice_index_or reaches n [])) → HaveReaches system facts reaches
have-reaches system facts wanted reaches all same long reach =
    record { long = long; reach = λ n c. reach n (contained-ranged facts (length system.facts) n all c) (same n ∙ contained-in_set facts n c) }

module _ (system : System) (facts : List ℕ) (reaches : List (List Bool)) (numbers : List ℕ)
    (causes : HasItsCauses system (set_of facts)) (ranged : (n : ℕ) → Contains facts n → n < length system.facts) (few : length system.facts < 4294967296)
    (have : HaveReaches system facts reaches) (table : IsTable facts numbers) (exact : HasNumbers (length system.facts) facts (map (rank_of reaches) reaches) numbers) where
  abbrev own : ℕ → List Bool
  own n = slice_index_or reaches n []

  within : (n : ℕ) → Contains facts n → n < length reaches
  within n c = omega (arith, ranged n c, have.long)

  rank-is : (n : ℕ) → Contains facts n → number_of (map (rank_of reaches) reaches) n ≡ rank_of reaches (own n)
  rank-is n c = get_or-map (rank_of reaches) reaches n [] 4294967295 (within n c)

  number-is : (n : ℕ) → Contains facts n → number_of numbers n ≡ rank_of reaches (own n)
  number-is n c = exact n c (ranged n c) (omega (arith, rank-is n c, rank-small reaches n (within n c), have.long)) ∙ rank-is n c

  size-same : (n m : ℕ) → Contains facts n → Contains facts m → length (own n) ≡ length (own m)
  size-same n m c d = (have.reach n c).size ∙ sym (have.reach m d).size

  -- what one fact depends on, another does that depends on it
  more : (n m : ℕ) → Contains facts n → Contains facts m → DependsOn system n m → (k : ℕ) → Has (member (own m)) k → Has (member (own n)) k
  more n m c d to k h = ((have.reach n c).exact k).1 (depends_then system n m k to (((have.reach m d).exact k).0 h))

  one_way : (n m : ℕ) → Contains facts n → Contains facts m → own n ≡ own m → DependsOn system n m
  one_way n m c d same = ((have.reach n c).exact m).0 (subst (λ bs. Has (member bs) m) (sym same) (((have.reach m d).exact m).1 (depends_self system m)))

  pub ranked_blocks : IsBlocks system facts numbers
  ranked_blocks = record {
    inside = λ n. (
      (λ c. omega (arith, number-is n c, rank-small reaches n (within n c), have.long)),
      table n,
    );
    mutual_reach = λ n m c d. (
      (λ same. let e : own n ≡ own m = rank-same reaches (own n) (own m) n m (within n c) (within m d) refl refl (sym (number-is n c) ∙ same ∙ number-is m d) in (one_way n m c d e, one_way m n d c (sym e))),
      (λ (to, back). number-is n c ∙ ap (rank_of reaches) (same_marks (own n) (own m) (size-same n m c d) (more m n d c back) (more n m c d to)) ∙ sym (number-is m d)),
    );
    falls = λ n m fact c at o.
        let to : DependsOn system n m = depends_step system n m fact at o in
        let d : Contains facts m = set_of-contained facts m (causes n m fact (contained-in_set facts n c) at o) in
        omega (arith, number-is n c, number-is m d, rank-at_most reaches (own m) (own n) (before-within (own n) (own m) (size-same n m c d) (more n m c d to)));
  }

-- so it is for what the calls answer
pub found_blocks : (system : System) (count : ℕ) (facts : List ℕ) (reaches shown : List (List Bool)) (ranks shown_ranks numbers : List ℕ) → HasItsCauses system (set_of facts) → All (λ n. n < length system.facts) facts
    → count ≡ length system.facts → count < 4294967296 → shown ≡ reaches → ranks ≡ map (rank_of shown) shown → shown_ranks ≡ ranks
    → HaveReaches system facts reaches → IsTable facts numbers → HasNumbers count facts shown_ranks numbers → IsBlocks system facts numbers
found_blocks system count facts reaches shown ranks shown_ranks numbers causes all same_count few same_reaches are same_ranks have table exact =
    ranked_blocks system facts reaches numbers causes (λ n c. contained-ranged facts (length system.facts) n all c) (omega (arith, same_count)) have table
    (subst (λ k. HasNumbers k facts (map (rank_of reaches) reaches) numbers) same_count
    (subst (λ rs. HasNumbers count facts rs numbers) (same_ranks ∙ are ∙ ap (λ sets. map (rank_of sets) sets) same_reaches) exact))
