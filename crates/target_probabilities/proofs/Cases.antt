-- From the cofactors of a family to the cases of what it covers.
use Rattle.std.proofs.Common.{ℕ, suc, ◌<◌, ◌≤◌, ◌≡◌, Bool, true, List, [], ◌∷◌, ◌++◌, length, refl, sym, ap, ◌∙◌, arith}
use Rattle.std.specs.List.{AllByRecursion}
use Rattle.zdd_store.specs.inner.Family.{Family, covers as family_covers, has, least_of}
use Rattle.zdd_families.proofs.Above.{above, covers-above, has_above, least_number-most}
use Rattle.zdd_families.proofs.Subsets.{has_first, has_rest}
use Rattle.probabilities.specs.inner.Cofactors.{AreDifferent, CoverTheSame, HasMoreCofactors, IsCofactor}
use Rattle.target_probabilities.specs.Probability.{AreAllApart, AreApart, Case, HasMoreCases, in_case}

-- a bound of each number is one of the least
least_from : (low : ℕ) (set : List ℕ) → low ≤ 4294967296 → ((x : ℕ) → has set x ≡ true → low ≤ x) → low ≤ least_of set
unfolding least_of
least_from low [] h all = h
least_from low (n ∷ ns) h all =
    let rest : low ≤ least_of ns = least_from low ns h (λ x here. all x (has_rest n ns x here)) in
    let first : low ≤ n = all n (has_first n ns) in
    omega arith

least_above : (low : ℕ) (set : List ℕ) → low ≤ 4294967296 → low ≤ least_of (above low set)
least_above low set few = least_from low (above low set) few (λ x here. (has_above low set x here).1)

-- of a family that covers what a condition holds for
module _ (family : Family) (condition : List ℕ → Bool) (covers_as : (set : List ℕ) → family_covers family set ≡ condition set) where
  abbrev case_of : (c : Family) → IsCofactor family c → Case
  case_of c its = record { first = its.first; occurred = its.occurred }

  case_as : (c : Family) (its : IsCofactor family c) (set : List ℕ) → in_case condition (case_of c its) set ≡ family_covers c set
  unfolding above
  case_as c its set =
      let few : its.first ≤ 4294967296 = let most = least_number-most c in let beyond = its.beyond in omega (arith, most, beyond) in
      sym (covers_as (its.occurred ++ above its.first set)) ∙ sym (its.covering (above its.first set) (least_above its.first set few)) ∙ covers-above its.first c set its.beyond

  abbrev all_cases : (cs : List Family) → AllByRecursion (IsCofactor family) cs → List Case
  all_cases [] are = []
  all_cases (c ∷ cs) are = case_of c are.0 ∷ all_cases cs are.1

  as_many : (cs : List Family) (are : AllByRecursion (IsCofactor family) cs) → length (all_cases cs are) ≡ length cs
  as_many [] are = refl
  as_many (c ∷ cs) are = ap suc (as_many cs are.1)

  all_earlier : (cs : List Family) (are : AllByRecursion (IsCofactor family) cs) → AllByRecursion (λ its. AllByRecursion (λ event. event < its.first) its.occurred) (all_cases cs are)
  all_earlier [] are = tt
  all_earlier (c ∷ cs) are = (are.0.earlier, all_earlier cs are.1)

  apart_from : (c : Family) (its : IsCofactor family c) (cs : List Family) (are : AllByRecursion (IsCofactor family) cs) → AllByRecursion (λ other. CoverTheSame c other → ⊥) cs
      → AllByRecursion (λ other. AreApart condition (case_of c its) other) (all_cases cs are)
  apart_from c its [] are apart = tt
  apart_from c its (d ∷ cs) are apart = ((λ same. apart.0 (λ set. sym (case_as c its set) ∙ same set ∙ case_as d are.0 set)), apart_from c its cs are.1 apart.1)

  all_apart : (cs : List Family) (are : AllByRecursion (IsCofactor family) cs) → AreDifferent cs → AreAllApart condition (all_cases cs are)
  unfolding AreDifferent
  all_apart [] are apart = tt
  all_apart (c ∷ cs) are apart = (apart_from c are.0 cs are.1 apart.0, all_apart cs are.1 apart.1)

  -- where it has more cofactors, there are more cases
  pub more_cases : (most : ℕ) → HasMoreCofactors most family → HasMoreCases most condition
  more_cases most has_more = record {
    cases = all_cases has_more.cofactors has_more.each;
    more = let more = has_more.more in omega (arith, more, as_many has_more.cofactors has_more.each);
    earlier = all_earlier has_more.cofactors has_more.each;
    apart = all_apart has_more.cofactors has_more.each has_more.different;
  }
