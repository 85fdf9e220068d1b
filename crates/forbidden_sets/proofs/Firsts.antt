-- The first set of a family in listing order, and the first minimal cut set that a sentence forbids.
use Rattle.std.proofs.Common.{ℕ, ◌+◌, ◌≡◌, ◌<◌, ◌≤◌, Bool, false, true, not, ◌||◌, ◌&&◌, List, [], ◌∷◌, ◌++◌, filter, map, length, Contains, Option, None, Some, MatchOption, inl, inr, ⊎_elim, refl, sym, ap, subst, ◌∙◌, arith}
use Rattle.std.specs.Prelude.{◌⊎◌, ◌==◌, ◌-◌, ◌^◌, min, nat_lt, IsTrue, Result, Ok, Err, IfOk}
use Rattle.std.specs.List.{AllByRecursion}
use Rattle.std.specs.declared.alloc.AllocError.{AllocError}
use Rattle.std.proofs.lemmas.Bool.{cases_lt, false≢true, false_from_ne_true, and_from, eq-eqb, eqb-true, or_right, or_left, lt-ltb}
use Rattle.fault_system.specs.Truth.{Has, set_of}
use Rattle.fault_system.specs.Systems.{System}
use Rattle.fault_system.specs.CutSets.{IsCutSet, IsEventSet, IsMinimalCutSet, IsSubset}
use Rattle.fault_system.specs.Listings.{IsBefore, IsWithinOrder, is_lower}
use Rattle.fault_system.proofs.NumberSets.{list_all-at, list_all-made}
use Rattle.fault_system.proofs.ListingLaws.{length_rising}
use Rattle.zdd_store.specs.inner.Family.{Family, IsInOrder, IsRising, branch, covers, has, is_within, precedes}
use Rattle.zdd_store.specs.inner.Answers.{sets_of}
use Rattle.zdd_store.proofs.Orders.{all_contained, contains_first, contains_none, first_or_rest}
use Rattle.zdd_families.proofs.Joins.{filter_member, member_filter}
use Rattle.zdd_families.proofs.Covers.{covers_member, member_covers}
use Rattle.zdd_families.proofs.Subsets.{has_none}
use Rattle.cutset_engine.proofs.CutSets.{has-set_of}
use Rattle.requirement_verdicts.specs.Meanings.{ContainsNone}
use Rattle.requirement_names.specs.declared.named.SetSentence.{SetSentence}
use Rattle.requirement_names.specs.declared.named.SetSentence.TheVariants.{Mixed, Order, Possible}
use Rattle.requirement_verdicts.specs.Verdicts.{IsFirstMinimal}
use Rattle.requirement_verdicts.specs.inner.Verdicts.{ForbidsNone, HasNoMinimal, IsFirstForbidden}
use Rattle.forbidden_sets.specs.inner.Families.{HasOthers, HasSizes, HasThoseWith, IsFirstOf, IsHead, IsOther}
use Rattle.forbidden_sets.proofs.Parts.{rises-rising}

-- ---- subsets

pub within-subset : (part set : List ℕ) → is_within part set ≡ true → IsSubset part set
unfolding is_within has
within-subset part set inside n here = list_all-at (has set) part n inside here

pub subset-within : (part set : List ℕ) → IsSubset part set → is_within part set ≡ true
unfolding is_within has
subset-within part set inside = list_all-made (has set) part (λ n here. inside n here)

pub none-contained : (parts : List (List ℕ)) (set : List ℕ) → covers parts set ≡ false → ContainsNone parts set
none-contained parts set none part here inside = false≢true (sym none ∙ covers_member parts part set here (subset-within part set inside))

pub none-covered : (parts : List (List ℕ)) (set : List ℕ) → ContainsNone parts set → covers parts set ≡ false
none-covered parts set none = false_from_ne_true _ (λ some. let part = member_covers parts set some in none part.part part.member (within-subset part.part set part.within))

-- without a set there is none that another contains
pub no-parts : (set : List ℕ) → covers [] set ≡ false
unfolding covers
no-parts set = refl

-- no minimal cut set is within another one
pub minimal-apart : (system : System) (target : ℕ) (part set : List ℕ) → IsMinimalCutSet system target part → IsMinimalCutSet system target set → is_within part set ≡ true → part ≡ set
minimal-apart system target part set one other inside = other.1 part one.0 (within-subset part set inside)

-- it has no more events than the system
pub minimal-short : (system : System) (target : ℕ) (set : List ℕ) → IsMinimalCutSet system target set → length set ≤ length system.events
minimal-short system target set minimal = let h = length_rising 0 (length system.events) set (omega arith) minimal.0.0 in omega (arith, h)

-- ---- the first set

same-order : (a b : List ℕ) → length a ≡ length b → is_lower a b ≡ precedes a b
same-order [] b same = refl
same-order (x ∷ a) [] same = absurd (omega (arith, same))
same-order (x ∷ a) (y ∷ b) same = ap (λ later. nat_lt x y || ((x == y) && later)) (same-order a b (omega (arith, same)))

before-same : (a b : List ℕ) → length a ≡ length b → IsTrue (precedes a b) → IsBefore a b
before-same a b same precedes_it = or_right (nat_lt (length a) (length b)) _ (and_from (length a == length b) (is_lower a b) (eq-eqb _ _ same) (same-order a b same ∙ precedes_it))

pub before-shorter : (a b : List ℕ) → length a < length b → IsBefore a b
before-shorter a b less = or_left (nat_lt (length a) (length b)) _ (lt-ltb (length a) (length b) less)

-- of sets of one size the first of the family is the first
first-in : (set : List ℕ) (others : Family) → IsInOrder (set ∷ others) → (other : List ℕ) → Contains (set ∷ others) other → length set ≡ length other → (other ≡ set) ⊎ IsBefore set other
unfolding IsInOrder
first-in set others ordered other here long = by (first_or_rest set others other here) where
  by : (set ≡ other) ⊎ Contains others other → (other ≡ set) ⊎ IsBefore set other
  by (inl same) = inl (sym same)
  by (inr later) = inr (before-same set other long (all_contained _ others other ordered.0 later))

-- the head of the sets of the least size is the first of a family
pub first-of-size : (size : ℕ) (family part : Family) (set : List ℕ) → part ≡ sets_of size family → IsHead part set → ((other : List ℕ) → Contains family other → length other < size → ⊥) → IsFirstOf family set
unfolding sets_of
first-of-size size family part set is head none = record { there = here.0; first = each } where
  here : Contains family set × ((length set == size) ≡ true)
  here = member_filter (λ s. length s == size) family set (subst (λ f. Contains f set) (sym head.whole ∙ is) (contains_first set head.others))

  long : length set ≡ size
  long = eqb-true (length set) size here.1

  same : (other : List ℕ) → Contains family other → length other ≡ size → (other ≡ set) ⊎ IsBefore set other
  same other there as_long = first-in set head.others (subst IsInOrder head.whole head.ordered) other
      (subst (λ f. Contains f other) (sym is ∙ head.whole) (filter_member (λ s. length s == size) family other there (eq-eqb (length other) size as_long))) (long ∙ sym as_long)

  longer : (other : List ℕ) → Contains family other → size ≤ length other → (size < length other) ⊎ (length other ≤ size) → (other ≡ set) ⊎ IsBefore set other
  longer other there enough (inl more) = inr (before-shorter set other (omega (arith, more, long)))
  longer other there enough (inr few) = same other there (omega (arith, enough, few))

  by : (other : List ℕ) → Contains family other → (length other < size) ⊎ (size ≤ length other) → (other ≡ set) ⊎ IsBefore set other
  by other there (inl less) = absurd (none other there less)
  by other there (inr enough) = longer other there enough (cases_lt size (length other))

  each : (other : List ℕ) → Contains family other → (other ≡ set) ⊎ IsBefore set other
  each other there = by other there (cases_lt (length other) size)

-- where no set has this size, none is shorter than one of a size more
pub none-of-size : (size : ℕ) (family part : Family) → part ≡ sets_of size family → part ≡ [] → ((other : List ℕ) → Contains family other → length other < size → ⊥) → (other : List ℕ) → Contains family other → length other < size + 1 → ⊥
unfolding sets_of
none-of-size size family part is empty none other there less = by (cases_lt (length other) size) where
  by : (length other < size) ⊎ (size ≤ length other) → ⊥
  by (inl shorter) = none other there shorter
  by (inr enough) = contains_none other (subst (λ f. Contains f other) (sym is ∙ empty) (filter_member (λ s. length s == size) family other there (eq-eqb (length other) size (omega (arith, less, enough)))))

-- ---- the head of a family

-- the first set of a branch is that of its sets with the variable
pub first-of-branch : (var : ℕ) (lo hi family : Family) (first : List ℕ) (others : Family) → family ≡ branch var lo hi → hi ≡ first ∷ others → family ≡ (var ∷ first) ∷ (map (λ set. var ∷ set) others ++ lo)
unfolding branch
first-of-branch var lo hi family first others is made = is ∙ ap (λ sets. map (λ set. var ∷ set) sets ++ lo) made

-- what was added to an empty list is the head
pub head-made : (family : Family) (none first set : List ℕ) (others : Family) → none ≡ [] → set ≡ none ++ first → family ≡ first ∷ others → IsInOrder family → IsHead family set
head-made family none first set others empty added made ordered =
    let same : set ≡ first = added ∙ ap (λ front. front ++ first) empty in record { others = others; whole = made ∙ ap (λ s. s ∷ others) (sym same); ordered = ordered }

-- ---- the first minimal cut set

module _ (system : System) (target : ℕ) (parts : List (List ℕ)) where
  some-event : (IsCutSet system target [] → ⊥) → (set : List ℕ) → IsMinimalCutSet system target set → 0 < length set
  some-event some [] minimal = absurd (some minimal.0)
  some-event some (x ∷ xs) minimal = omega arith

  pub sizes-of : (order : ℕ) (family : Family) → HasOthers system target order parts family → (IsCutSet system target [] → ⊥) → HasSizes order family
  sizes-of order family exact some set here = (some-event some set ((exact set).0 here).0, ((exact set).0 here).1.1)

  pub none-yet : (IsCutSet system target [] → ⊥) → HasNoMinimal system target (IsOther parts 0)
  none-yet some [] minimal such = some minimal.0
  none-yet some (x ∷ xs) minimal such = absurd (omega (arith, such.1))

  pub none-more : (tried most : ℕ) → most ≤ tried → HasNoMinimal system target (IsOther parts tried) → HasNoMinimal system target (IsOther parts most)
  none-more tried most le none set minimal such = none set minimal (such.0, omega (arith, le, such.1))

  -- the first of one order is that of a greater one
  pub first-more : (order most : ℕ) (set : List ℕ) → order ≤ most → IsFirstMinimal system target (IsOther parts order) set → IsFirstMinimal system target (IsOther parts most) set
  first-more order most set le first = record { minimal = first.minimal; such = (first.such.0, omega (arith, le, first.such.1)); first = λ other minimal such. each other minimal such (cases_lt order (length other)) first.such.1 } where
    each : (other : List ℕ) → IsMinimalCutSet system target other → IsOther parts most other → (order < length other) ⊎ (length other ≤ order) → length set ≤ order → (other ≡ set) ⊎ IsBefore set other
    each other minimal such (inl many) short = inr (before-shorter set other (omega (arith, many, short)))
    each other minimal such (inr few) short = first.first other minimal (such.0, few)

  pub first-found : (order : ℕ) (family : Family) (result : Result (Option (List ℕ)) AllocError) → HasOthers system target order parts family
      → IfOk result (λ found. MatchOption found ((set : List ℕ) → Contains family set → ⊥) (IsFirstOf family))
      → IfOk result (λ found. MatchOption found (HasNoMinimal system target (IsOther parts order)) (IsFirstMinimal system target (IsOther parts order)))
  first-found order family (Err error) exact found = found
  first-found order family (Ok None) exact none = λ set minimal such. none set ((exact set).1 (minimal, such))
  first-found order family (Ok (Some set)) exact first =
      let here = (exact set).0 first.there in record { minimal = here.0; such = here.1; first = λ other minimal such. first.first other ((exact other).1 (minimal, such)) }

-- ---- what is so of minimal cut sets

module _ (system : System) (target : ℕ) (A B : List ℕ → Type 0) (to : (set : List ℕ) → IsMinimalCutSet system target set → A set → B set) (back : (set : List ℕ) → IsMinimalCutSet system target set → B set → A set) where
  pub found-ok : (result : Result (Option (List ℕ)) AllocError) → IfOk result (λ found. MatchOption found (HasNoMinimal system target A) (IsFirstMinimal system target A))
      → IfOk result (λ found. MatchOption found (HasNoMinimal system target B) (IsFirstMinimal system target B))
  found-ok (Err error) found = found
  found-ok (Ok None) none = λ set minimal such. none set minimal (back set minimal such)
  found-ok (Ok (Some set)) first = record {
    minimal = first.minimal;
    such = to set first.minimal first.such;
    first = λ other minimal such. first.first other minimal (back other minimal such);
  }

-- ---- fewer events than so many

pub each-rising : (system : System) (sets : List (List ℕ)) → length system.events < 2 ^ 32 → AllByRecursion (IsEventSet system) sets → AllByRecursion IsRising sets
each-rising system [] few all = tt
each-rising system (set ∷ sets) few all = (rises-rising 0 (length system.events) set (omega (arith, few)) all.0, each-rising system sets few all.1)

module _ (system : System) (target least most : ℕ) (except : List (List ℕ)) (below count : ℕ) (less : below ≡ least - 1) (order : most ≡ min below count) where
  pub order-to : (IsCutSet system target [] → ⊥) → (set : List ℕ) → IsMinimalCutSet system target set → IsOther except most set → (length set < least) × ContainsNone except set
  order-to some set minimal such = (shorter set minimal such.1, none-contained except set such.0) where
    shorter : (s : List ℕ) → IsMinimalCutSet system target s → length s ≤ most → length s < least
    shorter [] cut short = absurd (some cut.0)
    shorter (x ∷ xs) cut short = omega (arith, short, less, order)

  pub order-back : count ≡ length system.events → (set : List ℕ) → IsMinimalCutSet system target set → (length set < least) × ContainsNone except set → IsOther except most set
  order-back all set minimal such =
      let short = minimal-short system target set minimal in
      (none-covered except set such.1, omega (arith, such.0, short, all, less, order))

-- ---- an event

module _ (system : System) (target event : ℕ) where
  has-some : (set : List ℕ) → has set event ≡ true → 0 < length set
  has-some [] here = absurd (has_none event here)
  has-some (x ∷ xs) here = omega arith

  within-count : (most : ℕ) (set : List ℕ) → most ≡ length system.events → IsMinimalCutSet system target set → length set ≤ most
  within-count most set all minimal = let short = minimal-short system target set minimal in omega (arith, short, all)

  pub with-sizes : (most : ℕ) (family : Family) → most ≡ length system.events → HasThoseWith system target event family → HasSizes most family
  with-sizes most family all exact set here = (has-some set ((exact set).0 here).1, within-count most set all ((exact set).0 here).0)

  pub with-first : (family : Family) (result : Result (Option (List ℕ)) AllocError) → HasThoseWith system target event family
      → IfOk result (λ found. MatchOption found ((set : List ℕ) → Contains family set → ⊥) (IsFirstOf family))
      → IfOk result (λ found. MatchOption found (HasNoMinimal system target (λ set. Has (set_of set) event)) (IsFirstMinimal system target (λ set. Has (set_of set) event)))
  with-first family (Err error) exact found = found
  with-first family (Ok None) exact none = λ set minimal such. none set ((exact set).1 (minimal, has-set_of set event ∙ such))
  with-first family (Ok (Some set)) exact first =
      let here = (exact set).0 first.there in record {
        minimal = here.0;
        such = sym (has-set_of set event) ∙ here.1;
        first = λ other minimal such. first.first other ((exact other).1 (minimal, has-set_of other event ∙ such));
      }

-- ---- a sentence

module _ (system : System) (target : ℕ) where
  -- what is found of a sentence by its parts is found of it
  pub order-found : (sentence : SetSentence) (least : ℕ) (except shown : List (List ℕ)) (result : Result (Option (List ℕ)) AllocError) → sentence ≡ Order least except → shown ≡ except
      → IfOk result (λ found. MatchOption found (ForbidsNone system target (Order least shown)) (IsFirstForbidden system target (Order least shown)))
      → IfOk result (λ found. MatchOption found (ForbidsNone system target sentence) (IsFirstForbidden system target sentence))
  order-found sentence least except shown result is same found =
      subst (λ (s : SetSentence). IfOk result (λ f. MatchOption f (ForbidsNone system target s) (IsFirstForbidden system target s))) (ap (Order least) same ∙ sym is) found

  pub mixed-found : (sentence : SetSentence) (group shown : List ℕ) (most : Option ℕ) (result : Result (Option (List ℕ)) AllocError) → sentence ≡ Mixed group most → shown ≡ group
      → IfOk result (λ found. MatchOption found (ForbidsNone system target (Mixed shown most)) (IsFirstForbidden system target (Mixed shown most)))
      → IfOk result (λ found. MatchOption found (ForbidsNone system target sentence) (IsFirstForbidden system target sentence))
  mixed-found sentence group shown most result is same found =
      subst (λ (s : SetSentence). IfOk result (λ f. MatchOption f (ForbidsNone system target s) (IsFirstForbidden system target s))) (ap (λ g. Mixed g most) same ∙ sym is) found

  pub said-found : (sentence said : SetSentence) (result : Result (Option (List ℕ)) AllocError) → sentence ≡ said → IfOk result (λ found. MatchOption found (ForbidsNone system target said) (IsFirstForbidden system target said))
      → IfOk result (λ found. MatchOption found (ForbidsNone system target sentence) (IsFirstForbidden system target sentence))
  said-found sentence said result is found = subst (λ (s : SetSentence). IfOk result (λ f. MatchOption f (ForbidsNone system target s) (IsFirstForbidden system target s))) (sym is) found

  -- that a target may hold forbids nothing
  pub possible-found : (sentence : SetSentence) → sentence ≡ Possible → ForbidsNone system target sentence
  possible-found sentence is = subst (ForbidsNone system target) (sym is) (λ set minimal such. such)
