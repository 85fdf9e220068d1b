-- The least event of a family, and the family split at it.
use Rattle.std.proofs.Common.{◌≡◌, ◌<◌, ◌≤◌, ℕ, zero, suc, min, Bool, true, false, not, cond, if◌then◌else◌, List, [], ◌∷◌, map, filter, refl, sym, ap, ◌∙◌, subst, arith, eqb-true, eq-eqb}
use Rattle.std.specs.Prelude.{◌==◌, ◌||◌, nat_lt}
use Rattle.std.specs.List.{list_any, AllByRecursion}
use Rattle.std.proofs.lemmas.Bool.{false≢true, lt-ltb, ltb-true}
use Rattle.zdd_store.specs.inner.Family.{Family, branch, least_of, least_number, has, IsRising}
use Rattle.zdd_store.specs.inner.Store.{Families, IsIn, family_at, family_of, family_with, Keeps, Fits, IsSound}
use Rattle.zdd_store.specs.declared.id.Id.{Id}
use Rattle.zdd_store.specs.declared.id.Node.{Node}
use Rattle.zdd_store.proofs.Branches.{with_var, branch-with_var, le-least_number-branch}
use Rattle.zdd_store.proofs.Growing.{some_set}
use Rattle.zdd_families.proofs.Subsets.{has-greater}
use Rattle.zdd_families.specs.inner.Unions.{with_number}
use Rattle.family_renaming.specs.inner.Renaming.{name_of, renamed, AreInverse, AreRenamed}
use Rattle.family_renaming.specs.inner.Splitting.{sets_lacking, set_without, sets_having, IsParted, least_event, IsAtEvent, IsOrdered}
use Rattle.family_renaming.specs.declared.parting.Parts.{Parts}
use Rattle.family_renaming.specs.declared.from_top.EventParts.{EventParts}
use Rattle.family_renaming.proofs.Halves.{other_number}

pub not_less : (n m : ℕ) → m ≤ n → nat_lt n m ≡ false
not_less n m h = by (nat_lt n m) refl
  where
    by : (b : Bool) → nat_lt n m ≡ b → b ≡ false
    by true e = let below : n < m = ltb-true n m e in absurd (omega arith)
    by false e = refl

-- a number that is less than all of a set stands first
pub with_first : (n : ℕ) (set : List ℕ) → n < least_of set → with_number n set ≡ n ∷ set
unfolding least_of
with_first n [] h = refl
with_first n (m ∷ ms) h = ap (λ b. if b then n ∷ m ∷ ms else if n == m then m ∷ ms else m ∷ with_number n ms) (lt-ltb n m (omega arith))

-- a number that is greater than the first stands behind it
pub with_later : (n m : ℕ) (ms : List ℕ) → m < n → with_number n (m ∷ ms) ≡ m ∷ with_number n ms
with_later n m ms h =
    ap (λ b. if b then n ∷ m ∷ ms else if n == m then m ∷ ms else m ∷ with_number n ms) (not_less n m (omega arith))
    ∙ ap (λ b. if b then m ∷ ms else m ∷ with_number n ms) (other_number n m (λ e. omega arith))

-- the least number with one more
pub least-with : (n : ℕ) (set : List ℕ) → least_of (with_number n set) ≡ min n (least_of set)
unfolding least_of
least-with n [] = refl
least-with n (m ∷ ms) = by (nat_lt n m) (n == m) refl refl (least-with n ms)
  where
    by : (l e : Bool) → nat_lt n m ≡ l → (n == m) ≡ e → least_of (with_number n ms) ≡ min n (least_of ms)
        → least_of (if l then n ∷ m ∷ ms else if e then m ∷ ms else m ∷ with_number n ms) ≡ min n (min m (least_of ms))
    by true e less same rest = refl
    by false true less same rest = let one : n ≡ m = eqb-true n m same in omega arith
    by false false less same rest = omega arith

-- the least event of a branch
least-with_var : (names : List ℕ) (var : ℕ) (lo : Family) (set : List ℕ) (sets : Family)
    → least_event names (with_var var (set ∷ sets) lo) ≡ min (min (name_of names var) (least_event names lo)) (least_event names (set ∷ sets))
unfolding with_var least_number
least-with_var names var lo set [] =
    let one : least_of (with_number (name_of names var) (renamed names set)) ≡ min (name_of names var) (least_of (renamed names set)) = least-with (name_of names var) (renamed names set) in
    let most : least_event names lo ≤ 4294967296 = least-most names lo in
    omega arith
  where
    least-most : (names : List ℕ) (family : Family) → least_event names family ≤ 4294967296
    least-most names [] = omega arith
    least-most names (set ∷ sets) = let rest : least_event names sets ≤ 4294967296 = least-most names sets in omega arith
least-with_var names var lo set (next ∷ sets) =
    let one : least_of (with_number (name_of names var) (renamed names set)) ≡ min (name_of names var) (least_of (renamed names set)) = least-with (name_of names var) (renamed names set) in
    let rest : least_event names (with_var var (next ∷ sets) lo) ≡ min (min (name_of names var) (least_event names lo)) (least_event names (next ∷ sets)) = least-with_var names var lo next sets in
    omega arith

-- the least event of a node
pub least-node_event : (store : Families) (names : List ℕ) (id : Id) (node : Node) → IsSound store → Fits store node → family_of store id ≡ family_with store node
    → least_event names (family_of store id) ≡ min (min (name_of names node.var) (least_event names (family_of store node.lo))) (least_event names (family_of store node.hi))
least-node_event store names id node sound fits is = by (family_of store node.hi) refl
  where
    by : (hi : Family) → family_of store node.hi ≡ hi → least_event names (family_of store id) ≡ min (min (name_of names node.var) (least_event names (family_of store node.lo))) (least_event names (family_of store node.hi))
    by [] none = absurd (some_set store node.hi.position sound fits.hi_some fits.hi_in none)
    by (set ∷ sets) some =
        ap (least_event names) (is ∙ ap (branch node.var (family_of store node.lo)) some ∙ branch-with_var node.var (family_of store node.lo) (set ∷ sets))
        ∙ least-with_var names node.var (family_of store node.lo) set sets
        ∙ ap (λ f. min (min (name_of names node.var) (least_event names (family_of store node.lo))) (least_event names f)) (sym some)

pub least-terminal_event : (store : Families) (names : List ℕ) (id : Id) → IsSound store → id.position < 2 → 4294967296 ≡ least_event names (family_of store id)
unfolding least_number least_of
least-terminal_event store names id sound h = by id.position refl h
  where
    by : (p : ℕ) → id.position ≡ p → p < 2 → 4294967296 ≡ least_event names (family_of store id)
    by zero e k = sym (ap (least_event names) (ap (family_at store) e ∙ sound.empty))
    by (suc zero) e k = sym (ap (least_event names) (ap (family_at store) e ∙ sound.unit))
    by (suc (suc n)) e k = absurd (omega arith)

-- whether a branch has a set that passes a test
any-with_var : (test : List ℕ → Bool) (var : ℕ) (lo hi : Family) → list_any test (with_var var hi lo) ≡ (list_any (λ set. test (var ∷ set)) hi || list_any test lo)
unfolding with_var
any-with_var test var lo [] = refl
any-with_var test var lo (set ∷ sets) = ap (λ b. test (var ∷ set) || b) (any-with_var test var lo sets) ∙ by (test (var ∷ set)) (list_any (λ s. test (var ∷ s)) sets) (list_any test lo)
  where
    by : (a b c : Bool) → (a || (b || c)) ≡ ((a || b) || c)
    by true b c = refl
    by false b c = refl

pub any-branch : (test : List ℕ → Bool) (var : ℕ) (lo hi : Family) → list_any test (branch var lo hi) ≡ (list_any (λ set. test (var ∷ set)) hi || list_any test lo)
any-branch test var lo hi = ap (list_any test) (branch-with_var var lo hi) ∙ any-with_var test var lo hi

-- what the least event and its variable tell of the sets
module _ (names : List ℕ) (event number : ℕ) (fits : event < 4294967296) (named : name_of names number ≡ event) (unique : (n : ℕ) → name_of names n ≡ event → n ≡ number) where
  lacking_set : (set : List ℕ) → event ≤ least_of (renamed names set) → has set number ≡ false → event < least_of (renamed names set)
  unfolding least_of has
  lacking_set [] low none = fits
  lacking_set (n ∷ ns) low none =
      let one : least_of (with_number (name_of names n) (renamed names ns)) ≡ min (name_of names n) (least_of (renamed names ns)) = least-with (name_of names n) (renamed names ns) in
      by (n == number) (has ns number) refl none (λ k. lacking_set ns (omega arith) k)
    where
      by : (b h : Bool) → (n == number) ≡ b → b || h ≡ false → (h ≡ false → event < least_of (renamed names ns)) → event < least_of (with_number (name_of names n) (renamed names ns))
      by true h e k rest = absurd (false≢true (sym k))
      by false h e k rest =
          let one : least_of (with_number (name_of names n) (renamed names ns)) ≡ min (name_of names n) (least_of (renamed names ns)) = least-with (name_of names n) (renamed names ns) in
          let later : event < least_of (renamed names ns) = rest k in
          let other : name_of names n ≡ event → ⊥ = λ f. false≢true (sym e ∙ eq-eqb n number (unique n f)) in
          omega arith

  having_set : (set : List ℕ) → IsRising set → event ≤ least_of (renamed names set) → has set number ≡ true
      → (renamed names set ≡ event ∷ renamed names (set_without number set)) × (event < least_of (renamed names (set_without number set)))
  unfolding IsRising least_of has set_without
  having_set [] up low some = absurd (false≢true some)
  having_set (n ∷ ns) up low some =
      let one : least_of (with_number (name_of names n) (renamed names ns)) ≡ min (name_of names n) (least_of (renamed names ns)) = least-with (name_of names n) (renamed names ns) in
      by (n == number) (has ns number) refl refl some (λ k. having_set ns up.1 (omega arith) k)
    where
      by : (b h : Bool) → (n == number) ≡ b → has ns number ≡ h → b || h ≡ true
          → (h ≡ true → (renamed names ns ≡ event ∷ renamed names (set_without number ns)) × (event < least_of (renamed names (set_without number ns))))
          → (with_number (name_of names n) (renamed names ns) ≡ event ∷ renamed names (if b then ns else n ∷ set_without number ns))
          × (event < least_of (renamed names (if b then ns else n ∷ set_without number ns)))
      by true h e f k rest =
          let is : n ≡ number = eqb-true n number e in
          let own : name_of names n ≡ event = ap (name_of names) is ∙ named in
          let one : least_of (with_number (name_of names n) (renamed names ns)) ≡ min (name_of names n) (least_of (renamed names ns)) = least-with (name_of names n) (renamed names ns) in
          let later : event < least_of (renamed names ns) = lacking_set ns (omega arith) (has-greater ns number (omega (arith, up.0))) in
          (with_first (name_of names n) (renamed names ns) (omega arith) ∙ ap (λ m. m ∷ renamed names ns) own, later)
      by false true e f k rest =
          let r = rest refl in
          let other : name_of names n ≡ event → ⊥ = λ g. false≢true (sym e ∙ eq-eqb n number (unique n g)) in
          let one : least_of (with_number (name_of names n) (renamed names ns)) ≡ min (name_of names n) (least_of (renamed names ns)) = least-with (name_of names n) (renamed names ns) in
          let more : least_of (with_number (name_of names n) (renamed names (set_without number ns))) ≡ min (name_of names n) (least_of (renamed names (set_without number ns))) =
          least-with (name_of names n) (renamed names (set_without number ns)) in
          let later : event < least_of (renamed names (set_without number ns)) = r.1 in
          let above : event < name_of names n = omega arith in
          (ap (with_number (name_of names n)) r.0 ∙ with_later (name_of names n) event (renamed names (set_without number ns)) above, omega arith)
      by false false e f k rest = absurd (false≢true k)

  pub lacking_family : (family : Family) → event ≤ least_event names family → event < least_event names (sets_lacking number family)
  unfolding sets_lacking least_number
  lacking_family [] low = fits
  lacking_family (set ∷ sets) low = by (has set number) refl (lacking_family sets (omega arith))
    where
      by : (b : Bool) → has set number ≡ b → event < least_event names (filter (λ s. not (has s number)) sets)
          → event < least_event names (cond (not b) (set ∷ filter (λ s. not (has s number)) sets) (filter (λ s. not (has s number)) sets))
      by true e rest = rest
      by false e rest = let here : event < least_of (renamed names set) = lacking_set set (omega arith) e in omega arith

  pub having_family : (family : Family) → AllByRecursion IsRising family → event ≤ least_event names family → event < least_event names (sets_having number family)
  unfolding sets_having least_number
  having_family [] up low = fits
  having_family (set ∷ sets) up low = by (has set number) refl (having_family sets up.1 (omega arith))
    where
      by : (b : Bool) → has set number ≡ b → event < least_event names (map (set_without number) (filter (λ s. has s number) sets))
          → event < least_event names (map (set_without number) (cond b (set ∷ filter (λ s. has s number) sets) (filter (λ s. has s number) sets)))
      by true e rest = let here : event < least_of (renamed names (set_without number set)) = (having_set set up.0 (omega arith) e).1 in omega arith
      by false e rest = rest

  -- a test of the renamed sets is one of those without the event, or of those with it, from which it was taken away
  pub any_parted : (test : List ℕ → Bool) (family : Family) → AllByRecursion IsRising family → event ≤ least_event names family
      → list_any (λ set. test (renamed names set)) family
      ≡ (list_any (λ set. test (event ∷ renamed names set)) (sets_having number family) || list_any (λ set. test (renamed names set)) (sets_lacking number family))
  unfolding sets_lacking sets_having least_number
  any_parted test [] up low = refl
  any_parted test (set ∷ sets) up low = ap (λ b. test (renamed names set) || b) (any_parted test sets up.1 (omega arith)) ∙ by (has set number) refl
    where
      having : Family → Family
      having family = map (set_without number) family

      in_having : List ℕ → Bool
      in_having s = test (event ∷ renamed names s)

      in_lacking : List ℕ → Bool
      in_lacking s = test (renamed names s)

      front : (a b c : Bool) → (a || (b || c)) ≡ ((a || b) || c)
      front true b c = refl
      front false b c = refl

      middle : (a b c : Bool) → (a || (b || c)) ≡ (b || (a || c))
      middle true true c = refl
      middle true false c = refl
      middle false b c = refl

      by : (b : Bool) → has set number ≡ b
          → (test (renamed names set) || (list_any (λ s. test (event ∷ renamed names s)) (map (set_without number) (filter (λ s. has s number) sets)) || list_any (λ s. test (renamed names s)) (filter (λ s. not (has s number)) sets)))
          ≡ (list_any (λ s. test (event ∷ renamed names s)) (map (set_without number) (cond b (set ∷ filter (λ s. has s number) sets) (filter (λ s. has s number) sets)))
          || list_any (λ s. test (renamed names s)) (cond (not b) (set ∷ filter (λ s. not (has s number)) sets) (filter (λ s. not (has s number)) sets)))
      by true e =
          ap (λ s. test s || (list_any (λ s. test (event ∷ renamed names s)) (map (set_without number) (filter (λ s. has s number) sets)) || list_any (λ s. test (renamed names s)) (filter (λ s. not (has s number)) sets))) (having_set set up.0 (omega arith) e).0
          ∙ front (test (event ∷ renamed names (set_without number set))) _ _
      by false e = middle (test (renamed names set)) _ _

-- a family split at its least event, from its parts at the event's variable
pub at_least_event : (s0 s1 : Families) (names back : List ℕ) (id : Id) (event : ℕ) (parts : Parts) → AreInverse names back → IsSound s0 → IsIn s0 id → event < 4294967296
    → event ≡ least_event names (family_of s0 id) → IsParted s1 (name_of back event) (family_of s0 id) parts
    → IsAtEvent s1 names (family_of s0 id) (record { event = event; lo = parts.lo; hi = parts.hi })
at_least_event s0 s1 names back id event parts inverse sound here fits least parted =
    record {
      lo_in = parted.lo_in;
      hi_in = parted.hi_in;
      least = sym least;
      lo_greater = subst (λ f. event < least_event names f) (sym parted.lo) (lacking_family names event (name_of back event) fits named unique (family_of s0 id) (omega arith));
      hi_greater = subst (λ f. event < least_event names f) (sym parted.hi) (having_family names event (name_of back event) fits named unique (family_of s0 id) up (omega arith));
      renamed = λ lo hi lo_is hi_is test.
          any-branch test event lo hi ∙ ap (λ b. b || list_any test lo) (hi_is (λ set. test (event ∷ set)))
          ∙ ap (λ b. list_any (λ set. test (event ∷ renamed names set)) (family_of s1 parts.hi) || b) (lo_is test)
          ∙ ap (λ f. list_any (λ set. test (event ∷ renamed names set)) f || list_any (λ set. test (renamed names set)) (family_of s1 parts.lo)) parted.hi
          ∙ ap (λ f. list_any (λ set. test (event ∷ renamed names set)) (sets_having (name_of back event) (family_of s0 id)) || list_any (λ set. test (renamed names set)) f) parted.lo
          ∙ sym (any_parted names event (name_of back event) fits named unique test (family_of s0 id) up (omega arith));
    }
  where
    named : name_of names (name_of back event) ≡ event
    named = inverse.back_there event

    unique : (n : ℕ) → name_of names n ≡ event → n ≡ name_of back event
    unique n e = sym (inverse.there_back n) ∙ ap (name_of back) e

    up : AllByRecursion IsRising (family_of s0 id)
    up = sound.rising id.position here

-- the family renamed, from its parts renamed
pub ordered_made : (s0 s1 s2 s3 s4 : Families) (names : List ℕ) (id : Id) (parts : EventParts) (lo hi answer : Id)
    → IsAtEvent s1 names (family_of s0 id) parts → Keeps s1 s2 → Keeps s2 s3 → IsOrdered s2 names (family_of s1 parts.lo) lo → IsOrdered s3 names (family_of s2 parts.hi) hi
    → IsIn s4 answer → family_of s4 answer ≡ branch parts.event (family_of s3 lo) (family_of s3 hi) → IsOrdered s4 names (family_of s0 id) answer
ordered_made s0 s1 s2 s3 s4 names id parts lo hi answer at k2 k3 lo_is hi_is answer_in made =
    let least : least_event names (family_of s0 id) ≡ parts.event = at.least in
    let lo_above : parts.event < least_event names (family_of s1 parts.lo) = at.lo_greater in
    let hi_above : parts.event < least_event names (family_of s2 parts.hi) = subst (λ f. parts.event < least_event names f) (sym (k2.same parts.hi.position at.hi_in)) at.hi_greater in
    let lo_least : least_event names (family_of s1 parts.lo) ≤ least_number (family_of s2 lo) = lo_is.least in
    let hi_least : least_event names (family_of s2 parts.hi) ≤ least_number (family_of s3 hi) = hi_is.least in
    record {
      found = answer_in;
      least = subst (λ f. least_event names (family_of s0 id) ≤ least_number f) (sym made)
          (le-least_number-branch (least_event names (family_of s0 id)) parts.event (family_of s3 lo) (family_of s3 hi) (omega arith)
          (subst (λ f. least_event names (family_of s0 id) ≤ least_number f) (sym lo_same) (omega arith)) (omega arith));
      renamed = subst (AreRenamed names (family_of s0 id)) (sym made)
          (at.renamed (family_of s3 lo) (family_of s3 hi) (subst (AreRenamed names (family_of s1 parts.lo)) (sym lo_same) lo_is.renamed)
          (subst (λ f. AreRenamed names f (family_of s3 hi)) (k2.same parts.hi.position at.hi_in) hi_is.renamed));
    }
  where
    lo_same : family_of s3 lo ≡ family_of s2 lo
    lo_same = k3.same lo.position lo_is.found
