-- In which components what goes wrong in one is felt next: what was found, sorted, is what the definition keeps of all components.
use Rattle.std.proofs.Common.{ℕ, zero, suc, ◌+◌, ◌≡◌, ◌<◌, ◌≤◌, ◌==◌, ◌&&◌, ◌||◌, eqb, nat_lt, Bool, true, false, cond, AllPairs, Contains, IsPermutation, List, [], ◌∷◌, ◌++◌, length, map, Option, None, Some, ap, ◌∙◌, sym, subst, refl, arith, rules, tests, ◌⊎◌, inl, inr, ⊎_elim, ◌-◌, eq-eqb, length-append, take}
use Rattle.std.specs.Prelude.{filter, option_to_list}
use Rattle.std.specs.List.{dedup}
use Rattle.std.specs.Option.{option_map_or}
use Rattle.std.specs.List.Sorted.{IsStrictlyIncreasing}
use Rattle.std.proofs.lemmas.Bool.{false≢true, and_from, and_parts, cases_eq}
use Rattle.std.proofs.Math.Seq.{take-append_seam}
use Rattle.std.proofs.lemmas.List.Folds.{list_any-append}
use Rattle.std.proofs.lemmas.List.Sorted.{Contains-permutation}
use Rattle.std.proofs.lemmas.List.Kept.{AllPairs-from_increasing, Contains-dedup_nat, Contains-from_dedup}
use Rattle.plain_values.specs.Numbered.{numbers_below}
use Rattle.plain_values.specs.Rising.{RisesWithin}
use Rattle.plain_values.proofs.Rising.{rises-push}
use Rattle.fault_system.specs.Truth.{Has, set_of}
use Rattle.fault_system.proofs.NumberSets.{RisesWithin-at, RisesWithin-filter, contained-in_set, same_rising, set_of-contained, set_of-filter, set_of-first, set_of-rest}
use Rattle.fault_system.proofs.TruthLaws.{same_answer}
use Rattle.package_index.specs.Names.{front}
use Rattle.instantiator.specs.declared.path.Component.{Component}
use Rattle.instantiator.specs.Components.{component_below}
use Rattle.instantiator.specs.Whole.{Instance}
use Rattle.propagation_links.specs.declared.link.Link.{Link}
use Rattle.sheet_model.specs.Parts.{holder_at, holder_of, is_next, leads_to, next_of, stands_in}
use Rattle.sheet_model.specs.inner.Felt.{is_other, targets_of}

-- ---- numbers that were sorted, and of which each was kept once

pub same-kept : (list sorted numbers : List ℕ) → list ≡ dedup eqb sorted → IsPermutation numbers sorted → IsPermutation sorted numbers → (n : ℕ) → set_of list n ≡ set_of numbers n
same-kept list sorted numbers kept permuted back n = same_answer _ _
    (λ h. contained-in_set numbers n (Contains-permutation sorted numbers n back (Contains-from_dedup eqb sorted n (subst (λ l. Contains l n) kept (set_of-contained list n h)))))
    (λ h. contained-in_set list n (subst (λ l. Contains l n) (sym kept) (Contains-dedup_nat sorted n (Contains-permutation numbers sorted n permuted (set_of-contained numbers n h)))))

-- numbers of which each is below all later ones rise
rises-pairs : (xs : List ℕ) (low high : ℕ) → AllPairs (λ x y. x < y) xs → ((n : ℕ) → Has (set_of xs) n → (low ≤ n) × (n < high)) → RisesWithin low high xs
rises-pairs [] low high pairs each = tt
rises-pairs (x ∷ xs) low high pairs each =
    let here = each x (set_of-first x xs) in (
      here.0,
      here.1,
      rises-pairs xs (x + 1) high
          (λ i j d h k. pairs (suc i) (suc j) d (omega arith) (omega arith))
          (λ n h. let at : Contains xs n = set_of-contained xs n h in
          let above : x < n = subst (λ m. x < m) (at.2) (pairs 0 (suc at.0) _ (omega arith) (omega (arith, at.1))) in
          (omega (arith, above), (each n (set_of-rest x xs n h)).1)),
    )

rises-increasing : (xs : List ℕ) (low high : ℕ) → IsStrictlyIncreasing xs → ((n : ℕ) → Has (set_of xs) n → (low ≤ n) × (n < high)) → RisesWithin low high xs
rises-increasing xs low high rising = rises-pairs xs low high (AllPairs-from_increasing xs rising)

rises-below : (count : ℕ) → RisesWithin 0 count (numbers_below count)
rises-below zero = tt
rises-below (suc count) =
    let same : count + 1 ≡ suc count = omega arith in
    subst (λ high. RisesWithin 0 high (numbers_below (suc count))) same (rises-push 0 count (numbers_below count) (omega arith) (rises-below count))

or_none : (b : Bool) → b || false ≡ b
or_none true = refl
or_none false = refl

or_second : (a b : Bool) → b ≡ true → a || b ≡ true
or_second true b h = refl
or_second false b h = h

or_first : (a b : Bool) → a ≡ true → a || b ≡ true
or_first true b h = refl
or_first false b h = absurd (false≢true h)

or_swap : (a b : Bool) → a || b ≡ b || a
or_swap true true = refl
or_swap true false = refl
or_swap false true = refl
or_swap false false = refl

below-or : (n count : ℕ) → n < suc count → (n < count) ⊎ (n ≡ count)
below-or n count h = ⊎_elim (λ same. inr same) (λ differ. inl (omega (arith, differ))) (cases_eq n count)

in-below : (count n : ℕ) → n < count → Has (set_of (numbers_below count)) n
in-below zero n h = absurd (omega arith)
in-below (suc count) n h =
    list_any-append (λ m. m == n) (numbers_below count) (count ∷ []) ∙ ⊎_elim
    (λ less. or_first _ _ (in-below count n less))
    (λ (same : n ≡ count). or_second _ _ (ap (λ m. (m == n) || false) (sym same) ∙ or_none (n == n) ∙ eq-eqb n n refl))
    (below-or n count h)

-- ---- what was found

target-step : (b : Bool) (link : Link) (links : List Link) (n : ℕ)
    → set_of (map (λ (one : Link). one.to.component) (cond b (link ∷ links) links)) n ≡ (b && (link.to.component == n)) || set_of (map (λ (one : Link). one.to.component) links) n
target-step true link links n = refl
target-step false link links n = refl

targets-set : (links : List Link) (number n : ℕ) → set_of (targets_of links number) n ≡ leads_to links number n
targets-set [] number n = refl
targets-set (link ∷ links) number n =
    target-step (link.from.component == number) link (filter (λ (one : Link). one.from.component == number) links) n
    ∙ ap (λ rest. ((link.from.component == number) && (link.to.component == n)) || rest) (targets-set links number n)

holder-set : (holder : Option ℕ) (n : ℕ) → set_of (option_to_list holder) n ≡ option_map_or (λ m. m == n) holder false
holder-set None n = refl
holder-set (Some m) n = or_none (m == n)

found-set : (instance : Instance) (links : List Link) (number n : ℕ) → set_of (targets_of links number ++ option_to_list (holder_of instance number)) n ≡ stands_in instance number n || leads_to links number n
found-set instance links number n =
    list_any-append (λ m. m == n) (targets_of links number) (option_to_list (holder_of instance number))
    ∙ ap (λ b. b || set_of (option_to_list (holder_of instance number)) n) (targets-set links number n)
    ∙ ap (λ b. leads_to links number n || b) (holder-set (holder_of instance number) n)
    ∙ or_swap (leads_to links number n) (stands_in instance number n)

less-from : (a b : ℕ) → nat_lt a b ≡ true → a < b
less-from a b h = search (rules, tests)

less-to : (a b : ℕ) → a < b → nat_lt a b ≡ true
less-to a b h = search (rules, tests)

-- what was found but the component itself, each once and rising, is where it is felt next
pub next-exact : (instance : Instance) (links : List Link) (number : ℕ) (others list : List ℕ)
    → others ≡ filter (is_other (length instance.components) number) (targets_of links number ++ option_to_list (holder_of instance number))
    → IsStrictlyIncreasing list → ((n : ℕ) → set_of list n ≡ set_of others n) → list ≡ next_of instance links number
next-exact instance links number others list others_are rising same =
    same_rising 0 0 count list (next_of instance links number) (rises-increasing list 0 count rising (λ n h. (omega arith, (parts n h).0)))
    (RisesWithin-filter (is_next instance links number) 0 count (numbers_below count) (rises-below count))
    (λ n h. let is = parts n h in set_of-filter (is_next instance links number) (numbers_below count) n ∙ and_from _ _ (in-below count n is.0) is.1)
    (λ n h.
    let both = and_parts _ _ (sym (set_of-filter (is_next instance links number) (numbers_below count) n) ∙ h) in
    let within : n < count = (RisesWithin-at 0 count (numbers_below count) n (rises-below count) both.0).1 in
    let is = and_parts _ _ both.1 in
    members n ∙ and_from _ _ (found-set instance links number n ∙ is.1) (and_from _ _ (less-to n count within) is.0))
  where
    count : ℕ
    count = length instance.components

    members : (n : ℕ) → set_of list n ≡ set_of (targets_of links number ++ option_to_list (holder_of instance number)) n && is_other count number n
    members n = same n ∙ ap (λ xs. set_of xs n) others_are ∙ set_of-filter (is_other count number) (targets_of links number ++ option_to_list (holder_of instance number)) n

    parts : (n : ℕ) → Has (set_of list) n → (n < count) × (is_next instance links number n ≡ true)
    parts n h =
        let both = and_parts _ _ (sym (members n) ∙ h) in
        let other = and_parts _ _ both.1 in
        (less-from n count other.0, and_from _ _ other.1 (sym (found-set instance links number n) ∙ both.0))

-- ---- where it stands

front-of : (names : List (List ℕ)) (last : List ℕ) → front (names ++ last ∷ []) ≡ names
front-of names last =
    let count : length (names ++ last ∷ []) - 1 ≡ length names = omega (arith, length-append names (last ∷ [])) in
    ap (λ k. take k (names ++ last ∷ [])) count ∙ take-append_seam names (last ∷ [])

-- a path with a last name
pub holder-behind : (components : List Component) (names : List (List ℕ)) (last : List ℕ) → holder_at components (names ++ last ∷ []) ≡ component_below components 0 names
holder-behind components [] last = ap (component_below components 0) (front-of [] last)
holder-behind components (name ∷ names) last = ap (component_below components 0) (front-of (name ∷ names) last)
