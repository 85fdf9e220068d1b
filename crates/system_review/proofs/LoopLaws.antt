-- Which blocks are loops, and what is so where none is.
use Rattle.std.proofs.Common.{ℕ, zero, suc, ◌+◌, ◌≡◌, ◌≢◌, ◌<◌, ◌≤◌, ◌⊎◌, Bool, true, false, cond, ◌&&◌, ◌||◌, not, nat_lt, ◌==◌, List, [], ◌∷◌, ◌++◌, length, map, take, Contains, Option, inl, inr, ⊎_elim, ap, ◌∙◌, sym, subst, refl, arith, add-one, append-nil, length-append}
use Rattle.std.proofs.Math.Seq.{take-length}
use Rattle.std.specs.Option.{option_map_or}
use Rattle.std.proofs.lemmas.Bool.{false≢true, lt-ltb, ltb-true, eqb-true, eq-eqb, cases_Bool, cases_eq, cases_lt, and_parts, or_cases, or_left, or_right}
use Rattle.std.proofs.lemmas.List.{get_or_past, map-append}
use Rattle.std.proofs.lemmas.List.Sums.{count_by_more_yes, count_by_more_no}
use Rattle.std.proofs.lemmas.Option.{slice_get_cases}
use Rattle.plain_values.specs.Rising.{RisesWithin}
use Rattle.fault_system.specs.Truth.{NumberSet, occurs}
use Rattle.fault_system.specs.Systems.{System, IsSystem, IsFact}
use Rattle.fault_system.specs.declared.formula.FactInfo.{FactInfo}
use Rattle.fault_system.proofs.Elements.{In, In-contains, contains_In, In-append, In-front, In-back}
use Rattle.plain_values.proofs.Rising.{rises-higher, rises-push}
use Rattle.fault_system.proofs.NumberSets.{RisesWithin-at, same_rising, contained-in_set, set_of-contained}
use Rattle.fault_system.proofs.Occurring.{truth-same}
use Rattle.fault_system.proofs.Occurrences.{occurs-in_range, fact-in_range}
use Rattle.backward_slice.specs.Slices.{DependsOn}
use Rattle.dependency_blocks.specs.Blocks.{number_of, size_of}
use Rattle.dependency_blocks.specs.inner.Blocks.{AreAllBlocks}
use Rattle.dependency_blocks.proofs.AllFacts.{below-contained}
use Rattle.dependency_blocks.proofs.Passes.{depends_self, depends_then, depends_step}
use Rattle.system_review.specs.Listed.{AreAll}
use Rattle.system_review.specs.Loops.{AreLoops, AreMutual, IsInLoop, IsLoop}
use Rattle.system_review.specs.inner.Loops.{HasOneMeaning}
use Rattle.system_review.specs.inner.Steps.{is_looped, loop_at, occurs_in_own}
use Rattle.system_review.specs.declared.looping.Loop.{Loop}
use Rattle.system_review.proofs.Rising.{Listed, listed-none, listed-next, next_or_below, all-as}

-- ---- lists of the numbers at which a test is true

members : NumberSet → ℕ → List ℕ
members test zero = []
members test (suc n) = members test n ++ cond (test n) (n ∷ []) []

members-listed : (test : NumberSet) (count : ℕ) → Listed test count (members test count)
unfolding members
members-listed test zero = listed-none test
members-listed test (suc n) = subst (λ (k : ℕ). Listed test k (members test n ++ cond (test n) (n ∷ []) [])) (add-one n) (listed-next test n (members test n) (test n) refl (members-listed test n))

has_number : List ℕ → ℕ → NumberSet
has_number numbers block n = number_of numbers n == block

members-size : (numbers : List ℕ) (block i : ℕ) → i ≤ length numbers → length (members (has_number numbers block) i) ≡ size_of (take i numbers) block
unfolding members has_number
members-size numbers block zero h = refl
members-size numbers block (suc i) h =
    ⊎_elim
    (λ told_so. ap (λ b. length (members (has_number numbers block) i ++ cond b (i ∷ []) [])) told_so ∙ length-append (members (has_number numbers block) i) (i ∷ [])
    ∙ ap (λ k. k + 1) (members-size numbers block i (omega arith))
    ∙ sym (count_by_more_yes (λ x. x == block) numbers i 4294967295 (omega arith) told_so) ∙ ap (λ k. size_of (take k numbers) block) (add-one i))
    (λ fails. ap (λ b. length (members (has_number numbers block) i ++ cond b (i ∷ []) [])) fails ∙ ap length (append-nil (members (has_number numbers block) i))
    ∙ members-size numbers block i (omega arith)
    ∙ sym (count_by_more_no (λ x. x == block) numbers i 4294967295 (omega arith) fails) ∙ ap (λ k. size_of (take k numbers) block) (add-one i))
    (cases_Bool (number_of numbers i == block))

-- ---- rising lists

rises-tight : (low high bound : ℕ) (ns : List ℕ) → RisesWithin low high ns → ((n : ℕ) → In n ns → n < bound) → RisesWithin low bound ns
rises-tight low high bound [] r below = tt
rises-tight low high bound (n ∷ ns) r below = (r.0, below n (inl refl), rises-tight (n + 1) high bound ns r.2 (λ m i. below m (inr i)))

another : (low high n : ℕ) (ns : List ℕ) → RisesWithin low high ns → 1 < length ns → (m : ℕ) × In m ns × (m ≢ n)
another low high n [] r more = absurd (omega arith)
another low high n (x ∷ []) r more = absurd (omega arith)
another low high n (x ∷ y ∷ ns) r more = ⊎_elim
    (λ same. (y, inr (inl refl), (λ e. absurd (omega (arith, r.2.0, e, same)))))
    (λ differ. (x, inl refl, differ))
    (cases_eq x n)

more-than_one : (n m : ℕ) (ns : List ℕ) → In n ns → In m ns → m ≢ n → 1 < length ns
more-than_one n m [] i j differ = absurd i
more-than_one n m (x ∷ []) i j differ = absurd (differ (only m j ∙ sym (only n i))) where
  only : (k : ℕ) → (x ≡ k) ⊎ ⊥ → k ≡ x
  only k at = ⊎_elim (λ e. sym e) (λ fails. absurd fails) at
more-than_one n m (x ∷ y ∷ ns) i j differ = omega arith

-- two lists of the same numbers are one
one_list : (P : ℕ → Type 0) (bound : ℕ) (xs ys : List ℕ) → AreAll P bound xs → AreAll P bound ys → xs ≡ ys
one_list P bound xs ys r s =
    same_rising 0 0 bound xs ys r.rise s.rise
    (λ n h. contained-in_set ys n ((s.exact n).1 ((r.exact n).0 (set_of-contained xs n h))))
    (λ n h. contained-in_set xs n ((r.exact n).1 ((s.exact n).0 (set_of-contained ys n h))))

-- ---- facts that depend on each other

tied-back : (system : System) (n m : ℕ) → AreMutual system n m → AreMutual system m n
tied-back system n m (to, back) = (back, to)

tied-then : (system : System) (n m k : ℕ) → AreMutual system n m → AreMutual system m k → AreMutual system n k
tied-then system n m k (to, back) (on, home) = (depends_then system n m k to on, depends_then system k m n home back)

tied-self : (system : System) (n : ℕ) → AreMutual system n n
tied-self system n = (depends_self system n, depends_self system n)

-- what a fact of a system depends on is a fact of it
depends-ranged : (system : System) → IsSystem system → (n m : ℕ) → n < length system.facts → DependsOn system n m → m < length system.facts
depends-ranged system is n m low depends =
    ltb-true _ _ (depends (λ x. nat_lt x (length system.facts))
    (λ x y fact has at o. lt-ltb _ _ (occurs-in_range _ _ y fact.formula (fact-in_range system is x fact at) o)) (lt-ltb _ _ low))

-- a fact stands in a loop if one does on which it and which on it depends
loop-along : (system : System) (n m : ℕ) → AreMutual system n m → IsInLoop system n → IsInLoop system m
loop-along system n m tied inside = ⊎_elim
    (λ same. subst (IsInLoop system) same inside)
    (λ differ. inl (n, differ, tied-back system n m tied))
    (cases_eq n m)

-- ---- blocks

module _ (system : System) (is : IsSystem system) (numbers : List ℕ) (blocks : AreAllBlocks system numbers) where
  pub in_block : (n : ℕ) → n < length system.facts → number_of numbers n < 4294967295
  in_block n low = (blocks.inside n).0 ((below-contained (length system.facts) n).1 low)

  from_block : (n : ℕ) → number_of numbers n < 4294967295 → n < length system.facts
  from_block n low = (below-contained (length system.facts) n).0 ((blocks.inside n).1 low)

  same-tied : (n m : ℕ) → n < length system.facts → m < length system.facts → number_of numbers n ≡ number_of numbers m → AreMutual system n m
  same-tied n m low under same = (blocks.mutual_reach n m ((below-contained (length system.facts) n).1 low) ((below-contained (length system.facts) m).1 under)).0 same

  tied-same : (n m : ℕ) → n < length system.facts → AreMutual system n m → (m < length system.facts) × (number_of numbers n ≡ number_of numbers m)
  tied-same n m low tied =
      let under : m < length system.facts = depends-ranged system is n m low tied.0 in
      (under, (blocks.mutual_reach n m ((below-contained (length system.facts) n).1 low) ((below-contained (length system.facts) m).1 under)).1 tied)

  in_table : (n : ℕ) → n < length system.facts → n < length numbers
  in_table n low = ⊎_elim (λ l. l) (λ past. absurd (omega (arith, in_block n low, get_or_past numbers n 4294967295 past))) (cases_lt n (length numbers))

  facts_of : ℕ → List ℕ
  facts_of n = members (has_number numbers (number_of numbers n)) (length numbers)

  -- the facts of the block of a fact are those that depend on it and on which it depends
  facts-are : (n : ℕ) → n < length system.facts → AreAll (AreMutual system n) (length system.facts) (facts_of n)
  unfolding facts_of has_number
  facts-are n low =
      let listed = members-listed (has_number numbers (number_of numbers n)) (length numbers) in
      let same : (m : ℕ) → In m (facts_of n) → number_of numbers n ≡ number_of numbers m = λ m i. sym (eqb-true _ _ (listed.so m i).1) in
      let under : (m : ℕ) → In m (facts_of n) → m < length system.facts = λ m i. from_block m (subst (λ (b : ℕ). b < 4294967295) (same m i) (in_block n low)) in
      record {
        exact = λ m. (
          (λ c. let i : In m (facts_of n) = In-contains m (facts_of n) c in same-tied n m low (under m i) (same m i)),
          (λ tied. let there = tied-same n m low tied in contains_In m (facts_of n) (listed.all m (in_table m there.0) (eq-eqb _ _ (sym there.1)))),
        );
        rise = rises-tight 0 (length numbers) (length system.facts) (facts_of n) listed.rise under;
      }

  facts-size : (n : ℕ) → length (facts_of n) ≡ size_of numbers (number_of numbers n)
  unfolding facts_of
  facts-size n = members-size numbers (number_of numbers n) (length numbers) (omega arith) ∙ ap (λ xs. size_of xs (number_of numbers n)) (take-length numbers)

  self-in : (n : ℕ) → n < length system.facts → In n (facts_of n)
  self-in n low = In-contains n (facts_of n) (((facts-are n low).exact n).1 (tied-self system n))

  own_in : ℕ → Option FactInfo → Bool
  own_in n found = option_map_or (λ fact. occurs n fact.formula) found false

  -- a block of more than one fact, or of one that occurs in its own formula, is a loop
  looped-in : (n : ℕ) → n < length system.facts → is_looped system (loop_at numbers n) ≡ true → IsInLoop system n
  unfolding own_in
  looped-in n low looped = ⊎_elim
      (λ more.
      let other = another 0 (length system.facts) n (facts_of n) (facts-are n low).rise (omega (arith, facts-size n, ltb-true 1 (size_of numbers (number_of numbers n)) more)) in
      inl (other.0, other.2, ((facts-are n low).exact other.0).0 (contains_In other.0 (facts_of n) other.1)))
      (λ own. ⊎_elim
      (λ (fact, there, at, read). inr (fact, at, sym (ap (own_in n) at) ∙ own))
      (λ (past, none). absurd (false≢true (sym (ap (own_in n) none) ∙ own)))
      (slice_get_cases system.facts n).1)
      (or_cases (nat_lt 1 (size_of numbers (number_of numbers n))) (occurs_in_own system n) looped)

  in-looped : (n : ℕ) → n < length system.facts → IsInLoop system n → is_looped system (loop_at numbers n) ≡ true
  unfolding own_in
  in-looped n low inside = ⊎_elim
      (λ (m, differ, tied).
      let more = more-than_one n m (facts_of n) (self-in n low) (In-contains m (facts_of n) (((facts-are n low).exact m).1 tied)) differ in
      or_left _ _ (lt-ltb 1 (size_of numbers (number_of numbers n)) (omega (arith, facts-size n, more))))
      (λ (fact, at, o). or_right (nat_lt 1 (size_of numbers (number_of numbers n))) _ (ap (own_in n) at ∙ o))
      inside

  -- the first fact of a block that is a loop tells it
  loop-is : (n : ℕ) → n < length system.facts → ((m : ℕ) → m < n → number_of numbers m ≡ number_of numbers n → ⊥) → is_looped system (loop_at numbers n) ≡ true → IsLoop system (loop_at numbers n)
  loop-is n low first looped = record {
    inside = low;
    looped = looped-in n low looped;
    first = λ m tied. ⊎_elim (λ l. absurd (first m l (sym (tied-same n m low tied).1))) (λ h. h) (cases_lt m n);
    size = (facts_of n, facts-are n low, facts-size n);
  }

  -- a loop is that of its first fact, no earlier fact is of its block, and it is looped
  loop-size : (loop : Loop) → IsLoop system loop → loop ≡ loop_at numbers loop.first
  loop-size loop told =
      let size : loop.size ≡ size_of numbers (number_of numbers loop.first) =
      sym told.size.2 ∙ ap length (one_list (AreMutual system loop.first) (length system.facts) told.size.0 (facts_of loop.first) told.size.1 (facts-are loop.first told.inside)) ∙ facts-size loop.first in
      λ i. record { size = size i; first = loop.first }

  loop-first : (loop : Loop) → IsLoop system loop → (m : ℕ) → m < loop.first → number_of numbers m ≡ number_of numbers loop.first → ⊥
  loop-first loop told m before same =
      let inside = told.inside in
      let low : m < length system.facts = omega arith in
      let least : loop.first ≤ m = told.first m (same-tied loop.first m inside low (sym same)) in
      absurd (omega arith)

  -- ---- gathering

  -- the loops whose first fact is below a number, and the blocks of the facts below it
  pub record Gathered (seen : ℕ → Bool) (loops : List Loop) (count : ℕ) : Type 0 where
    pub seen_from : (block : ℕ) → seen block ≡ true → (n : ℕ) × (n < count) × (number_of numbers n ≡ block)
    pub seen_all : (n : ℕ) → n < count → seen (number_of numbers n) ≡ true
    pub so : (loop : Loop) → In loop loops → (loop.first < count) × IsLoop system loop
    pub all : (loop : Loop) → loop.first < count → IsLoop system loop → In loop loops
    pub rise : RisesWithin 0 count (map (λ loop. loop.first) loops)

  pub gathered-none : (seen : ℕ → Bool) → ((block : ℕ) → seen block ≡ false) → Gathered seen [] 0
  gathered-none seen none = record {
    seen_from = λ block h. absurd (false≢true (sym (none block) ∙ h));
    seen_all = λ n h. absurd (omega arith);
    so = λ loop i. absurd i;
    all = λ loop h told. absurd (omega arith);
    rise = tt;
  }

  module _ (old new : ℕ → Bool) (before after : List Loop) (count : ℕ) (low : count < length system.facts)
      (seen : (block : ℕ) → new block ≡ (number_of numbers count == block) || old block) (is_so : Gathered old before count) where
    seen-from : (block : ℕ) → new block ≡ true → (n : ℕ) × (n < count + 1) × (number_of numbers n ≡ block)
    seen-from block h = ⊎_elim
        (λ here. (count, omega arith, eqb-true (number_of numbers count) block here))
        (λ there. let found = is_so.seen_from block there in let below = found.1 in (found.0, omega arith, found.2))
        (or_cases _ _ (sym (seen block) ∙ h))

    seen-all : (n : ℕ) → n < count + 1 → new (number_of numbers n) ≡ true
    seen-all n h = ⊎_elim
        (λ below. seen (number_of numbers n) ∙ or_right (number_of numbers count == number_of numbers n) _ (is_so.seen_all n below))
        (λ same. seen (number_of numbers n) ∙ or_left _ (old (number_of numbers n)) (eq-eqb _ _ (ap (number_of numbers) same)))
        (next_or_below n count h)

    -- the block was seen already, or it is no loop
    gathered-same : not (old (number_of numbers count)) && is_looped system (loop_at numbers count) ≡ false → Gathered new before (count + 1)
    gathered-same fails = record {
      seen_from = seen-from;
      seen_all = seen-all;
      so = λ loop i. let was = is_so.so loop i in let below = was.0 in (omega arith, was.1);
      all = λ loop h told. ⊎_elim (λ below. is_so.all loop below told)
          (λ same. absurd (never loop told same)) (next_or_below loop.first count h);
      rise = rises-higher 0 count (count + 1) (map (λ loop. loop.first) before) (omega arith) is_so.rise;
    } where
      never : (loop : Loop) → IsLoop system loop → count ≡ loop.first → ⊥
      never loop told same = ⊎_elim
          (λ told_so. let found = is_so.seen_from (number_of numbers count) told_so in
          loop-first loop told found.0 (subst (λ (k : ℕ). found.0 < k) same found.1) (found.2 ∙ ap (number_of numbers) same))
          (λ unseen. absurd (false≢true (sym fails ∙ ap (λ b. not b && is_looped system (loop_at numbers count)) unseen
          ∙ in-looped count low (subst (IsInLoop system) (sym same) told.looped))))
          (cases_Bool (old (number_of numbers count)))

    -- it is a loop that was not seen
    gathered-new : not (old (number_of numbers count)) && is_looped system (loop_at numbers count) ≡ true → Gathered new (before ++ loop_at numbers count ∷ []) (count + 1)
    gathered-new told_so = record {
      seen_from = seen-from;
      seen_all = seen-all;
      so = λ loop i. ⊎_elim
          (λ was. let b = is_so.so loop was in let below = b.0 in (omega arith, b.1))
          (λ last. ⊎_elim (λ same. subst (λ (l : Loop). (l.first < count + 1) × IsLoop system l) same (omega arith, here)) (λ fails. absurd fails) last)
          (In-append loop before (loop_at numbers count ∷ []) i);
      all = λ loop h told. ⊎_elim
          (λ below. In-front loop before (loop_at numbers count ∷ []) (is_so.all loop below told))
          (λ same. In-back loop before (loop_at numbers count ∷ []) (inl (sym (loop-size loop told ∙ ap (loop_at numbers) (sym same)))))
          (next_or_below loop.first count h);
      rise = subst (RisesWithin 0 (count + 1)) (sym (map-append (λ (loop : Loop). loop.first) before (loop_at numbers count ∷ []))) (rises-push 0 count (map (λ loop. loop.first) before) (omega arith) is_so.rise);
    } where
      both : (not (old (number_of numbers count)) ≡ true) × (is_looped system (loop_at numbers count) ≡ true)
      both = and_parts _ _ told_so

      here : IsLoop system (loop_at numbers count)
      here = loop-is count low
          (λ m before same. absurd (false≢true (sym (ap not (sym (ap old same) ∙ is_so.seen_all m before)) ∙ both.0)))
          both.1

    pub gathered-next : after ≡ before ++ cond (not (old (number_of numbers count)) && is_looped system (loop_at numbers count)) (loop_at numbers count ∷ []) [] → Gathered new after (count + 1)
    gathered-next made = ⊎_elim
        (λ told_so. subst (λ (loops : List Loop). Gathered new loops (count + 1)) (sym (made ∙ ap (λ b. before ++ cond b (loop_at numbers count ∷ []) []) told_so)) (gathered-new told_so))
        (λ fails. subst (λ (loops : List Loop). Gathered new loops (count + 1)) (sym (made ∙ ap (λ b. before ++ cond b (loop_at numbers count ∷ []) []) fails ∙ append-nil before)) (gathered-same fails))
        (cases_Bool (not (old (number_of numbers count)) && is_looped system (loop_at numbers count)))

  pub gathered-end : (seen : ℕ → Bool) (loops : List Loop) (count : ℕ) → count ≡ length system.facts → Gathered seen loops count → AreLoops system loops
  gathered-end seen loops count all is_so = record {
    exact = λ loop. (
      (λ c. (is_so.so loop (In-contains loop loops c)).1),
      (λ told. contains_In loop loops (is_so.all loop (subst (λ (k : ℕ). loop.first < k) (sym all) told.inside) told)),
    );
    rise = subst (λ (k : ℕ). RisesWithin 0 k (map (λ loop. loop.first) loops)) all is_so.rise;
  }

  -- ---- without loops

  -- where there is no loop, no fact stands in one
  none-in : ((loop : Loop) → IsLoop system loop → ⊥) → (n : ℕ) → n < length system.facts → IsInLoop system n → ⊥
  none-in none n low inside = at (facts_of n) (facts-are n low) (self-in n low) where
    at : (list : List ℕ) → AreAll (AreMutual system n) (length system.facts) list → In n list → ⊥
    at [] are i = i
    at (x ∷ xs) are i =
        let tied : AreMutual system n x = (are.exact x).0 (contains_In x (x ∷ xs) (inl refl)) in
        none (record { size = length (x ∷ xs); first = x }) (record {
          inside = depends-ranged system is n x low tied.0;
          looped = loop-along system n x tied inside;
          first = λ m along. (RisesWithin-at x (length system.facts) (x ∷ xs) m (omega arith, are.rise.1, are.rise.2) (contained-in_set (x ∷ xs) m ((are.exact m).1 (tied-then system n x m tied along)))).0;
          size = (x ∷ xs, all-as (AreMutual system n) (AreMutual system x) (length system.facts) (length system.facts) (x ∷ xs) refl (λ m to. tied-then system x n m (tied-back system n x tied) to) (λ m to. tied-then system n x m tied to) are, refl);
        })

  -- then what occurs in a formula is of a lower block
  falls-below : ((loop : Loop) → IsLoop system loop → ⊥) → (n m : ℕ) (fact : FactInfo) → n < length system.facts → IsFact system n fact → occurs m fact.formula ≡ true → number_of numbers m < number_of numbers n
  falls-below none n m fact low at o =
      let most : number_of numbers m ≤ number_of numbers n = blocks.falls n m fact ((below-contained (length system.facts) n).1 low) at o in
      let under : m < length system.facts = depends-ranged system is n m low (depends_step system n m fact at o) in
      ⊎_elim
      (λ same. absurd (none-in none n low (⊎_elim
      (λ own. inr (fact, at, subst (λ (k : ℕ). occurs k fact.formula ≡ true) own o))
      (λ differ. inl (m, differ, same-tied n m low under (sym same))) (cases_eq m n))))
      (λ differ. omega arith)
      (cases_eq (number_of numbers m) (number_of numbers n))

  -- and each set of events leaves one set of facts that agrees
  pub one-meaning : ((loop : Loop) → IsLoop system loop → ⊥) → HasOneMeaning system
  one-meaning none events a b agrees also n low = step (suc (number_of numbers n)) n low (omega arith) where
    step : (bound k : ℕ) → k < length system.facts → number_of numbers k < bound → a k ≡ b k
    step zero k inside h = absurd (omega arith)
    step (suc bound) k inside h = ⊎_elim
        (λ (fact, there, at, read). agrees k fact at
        ∙ truth-same events events a b fact.formula (λ e o. refl)
        (λ m o. let lower = falls-below none k m fact inside at o in
        step bound m (depends-ranged system is k m inside (depends_step system k m fact at o)) (omega arith))
        ∙ sym (also k fact at))
        (λ (past, nothing). absurd (omega arith))
        (slice_get_cases system.facts k).1

-- a list of all loops that is empty says that there is none
pub none-told : (system : System) (loops : List Loop) → AreLoops system loops → loops ≡ [] → (loop : Loop) → IsLoop system loop → ⊥
none-told system loops are empty loop told =
    let c : Contains [] loop = subst (λ (list : List Loop). Contains list loop) empty ((are.exact loop).1 told) in
    absurd (omega (arith, c.1))
