-- Families with one set more, and lists of the sets of a family.
use Rattle.std.proofs.Common.{◌≡◌, ◌<◌, ◌≤◌, ℕ, zero, suc, min, Bool, true, false, List, [], ◌∷◌, ◌++◌, length, map, drop, get_or, ◌-◌, drop-cons, Result, Ok, Err, refl, sym, ap, ◌∙◌, subst, arith}
use Rattle.std.specs.Prelude.{◌||◌, IfOk}
use Rattle.std.specs.declared.alloc.AllocError.{AllocError}
use Rattle.std.specs.List.{list_any}
use Rattle.zdd_store.specs.inner.Family.{Family, branch, least_of, least_number}
use Rattle.zdd_store.specs.inner.Store.{Families, IsIn, family_at, family_of, family_with, Keeps, Fits, IsSound}
use Rattle.zdd_store.specs.declared.id.Id.{Id}
use Rattle.zdd_store.specs.declared.id.Node.{Node}
use Rattle.zdd_store.proofs.Branches.{branch-empty, le-least_number-branch}
use Rattle.zdd_store.proofs.Growing.{Keeps-same}
use Rattle.zdd_store.proofs.Terminals.{least-empty, least-unit}
use Rattle.zdd_families.proofs.Above.{least_number-most}
use Rattle.zdd_families.proofs.Ways.{Keeps_trans}
use Rattle.zdd_families.proofs.Splits.{least-terminal}
use Rattle.zdd_families.specs.inner.Unions.{with_number}
use Rattle.family_renaming.specs.inner.Renaming.{name_of, AreRenamed}
use Rattle.family_renaming.specs.inner.Lists.{with_names, ListsMore, HasOneMore, OneMore, HasSets}
use Rattle.family_renaming.proofs.Firsts.{any-branch}
use Rattle.family_renaming.proofs.Puts.{names_renamed}

or_swap : (a b c : Bool) → (a || (b || c)) ≡ (b || (a || c))
or_swap true true c = refl
or_swap true false c = refl
or_swap false b c = refl

or_front : (a b c : Bool) → ((a || b) || c) ≡ (a || (b || c))
or_front true b c = refl
or_front false b c = refl

-- a family without variables with the empty set is that of UNIT
pub one_more_unit : (store : Families) (id : Id) → IsSound store → id.position < 2 → OneMore store store [] id (Ok (record { position = 1 }))
unfolding least_of
one_more_unit store id sound h =
    record {
      kept = Keeps-same store;
      answer = record {
        found = sound.some;
        least = omega (arith, least-terminal store id.position sound h, least-unit store sound);
        any = λ test. ap (list_any test) sound.unit ∙ by test id.position refl h;
      };
    }
  where
    by : (test : List ℕ → Bool) (p : ℕ) → id.position ≡ p → p < 2 → (test [] || false) ≡ (test [] || list_any test (family_of store id))
    by test zero e k = ap (λ f. test [] || list_any test f) (sym (ap (family_at store) e ∙ sound.empty))
    by test (suc zero) e k = twice (test []) ∙ ap (λ f. test [] || list_any test f) (sym (ap (family_at store) e ∙ sound.unit))
      where
        twice : (b : Bool) → (b || false) ≡ (b || (b || false))
        twice true = refl
        twice false = refl
    by test (suc (suc n)) e k = absurd (omega arith)

-- a set whose numbers are greater than a node's variable is put into its lo
pub one_more_lo : (s0 s1 s2 : Families) (id : Id) (node : Node) (set : List ℕ) (lo answer : Id) → Fits s0 node → family_of s0 id ≡ family_with s0 node → least_number (family_of s0 id) ≡ node.var
    → node.var < least_of set → Keeps s0 s1 → HasOneMore s1 set (family_of s0 node.lo) lo
    → IsIn s2 answer → family_of s2 answer ≡ branch node.var (family_of s1 lo) (family_of s1 node.hi) → HasOneMore s2 set (family_of s0 id) answer
one_more_lo s0 s1 s2 id node set lo answer fits is least above kept more answer_in made =
    let lo_above : node.var < least_number (family_of s0 node.lo) = fits.lo_greater in
    let hi_above : node.var < least_number (family_of s0 node.hi) = fits.hi_greater in
    let lo_least : min (least_of set) (least_number (family_of s0 node.lo)) ≤ least_number (family_of s1 lo) = more.least in
    let at : family_of s2 answer ≡ branch node.var (family_of s1 lo) (family_of s0 node.hi) = made ∙ ap (branch node.var (family_of s1 lo)) (kept.same node.hi.position fits.hi_in) in
    record {
      found = answer_in;
      least = subst (λ f. min (least_of set) (least_number (family_of s0 id)) ≤ least_number f) (sym at)
          (le-least_number-branch (min (least_of set) (least_number (family_of s0 id))) node.var (family_of s1 lo) (family_of s0 node.hi) (omega arith) (omega arith) (omega arith));
      any = λ test.
          ap (list_any test) at ∙ any-branch test node.var (family_of s1 lo) (family_of s0 node.hi) ∙ ap (λ b. list_any (λ s. test (node.var ∷ s)) (family_of s0 node.hi) || b) (more.any test)
          ∙ or_swap (list_any (λ s. test (node.var ∷ s)) (family_of s0 node.hi)) (test set) (list_any test (family_of s0 node.lo))
          ∙ ap (λ b. test set || b) (sym (ap (list_any test) is ∙ any-branch test node.var (family_of s0 node.lo) (family_of s0 node.hi)));
    }

-- a set that begins with the variable of a branch is put into its hi
pub one_more_hi : (s0 s1 s2 : Families) (family : Family) (first : ℕ) (rest : List ℕ) (lo hi more answer : Id) → IsIn s0 lo → first < least_number (family_of s0 lo) → first < least_number (family_of s0 hi) → first < least_of rest
    → family ≡ branch first (family_of s0 lo) (family_of s0 hi) → Keeps s0 s1 → HasOneMore s1 rest (family_of s0 hi) more
    → IsIn s2 answer → family_of s2 answer ≡ branch first (family_of s1 lo) (family_of s1 more) → HasOneMore s2 (first ∷ rest) family answer
unfolding least_of
one_more_hi s0 s1 s2 family first rest lo hi more answer lo_in lo_above hi_above rest_above is kept has answer_in made =
    let hi_least : min (least_of rest) (least_number (family_of s0 hi)) ≤ least_number (family_of s1 more) = has.least in
    let at : family_of s2 answer ≡ branch first (family_of s0 lo) (family_of s1 more) = made ∙ ap (λ f. branch first f (family_of s1 more)) (kept.same lo.position lo_in) in
    record {
      found = answer_in;
      least = subst (λ f. min (least_of (first ∷ rest)) (least_number family) ≤ least_number f) (sym at)
          (le-least_number-branch (min (least_of (first ∷ rest)) (least_number family)) first (family_of s0 lo) (family_of s1 more) (omega arith) (omega arith) (omega arith));
      any = λ test.
          ap (list_any test) at ∙ any-branch test first (family_of s0 lo) (family_of s1 more) ∙ ap (λ b. b || list_any test (family_of s0 lo)) (has.any (λ s. test (first ∷ s)))
          ∙ or_front (test (first ∷ rest)) (list_any (λ s. test (first ∷ s)) (family_of s0 hi)) (list_any test (family_of s0 lo))
          ∙ ap (λ b. test (first ∷ rest) || b) (sym (ap (list_any test) is ∙ any-branch test first (family_of s0 lo) (family_of s0 hi)));
    }

-- the sets of a node listed: those of hi, with its name, and those of lo
pub lists_node : (names set : List ℕ) (var : ℕ) (lo hi family before middle after : Family) → family ≡ branch var lo hi
    → ListsMore names (with_number (name_of names var) set) hi before middle → ListsMore names set lo middle after → ListsMore names set family before after
lists_node names set var lo hi family before middle after is with_hi with_lo test =
    with_lo test ∙ ap (λ b. b || list_any (λ s. test (with_names names s set)) lo) (with_hi test)
    ∙ or_front (list_any test before) (list_any (λ s. test (with_names names s (with_number (name_of names var) set))) hi) (list_any (λ s. test (with_names names s set)) lo)
    ∙ ap (λ b. list_any test before || b) (sym (ap (list_any (λ s. test (with_names names s set))) is ∙ any-branch (λ s. test (with_names names s set)) var lo hi))

-- the one set of UNIT listed
any-push : {A : Type 0} (test : List ℕ → Bool) (f : A → List ℕ) (xs : List A) (x : A) → list_any test (map f (xs ++ x ∷ [])) ≡ (list_any test (map f xs) || (test (f x) || false))
any-push test f [] x = refl
any-push test f (y ∷ ys) x = ap (λ b. test (f y) || b) (any-push test f ys x) ∙ sym (or_front (test (f y)) (list_any test (map f ys)) (test (f x) || false))

pub lists_unit : {A : Type 0} (names set : List ℕ) (f : A → List ℕ) (xs : List A) (x : A) (family : Family) → family ≡ [] ∷ [] → f x ≡ set → ListsMore names set family (map f xs) (map f (xs ++ x ∷ []))
lists_unit names set f xs x family is e test =
    any-push test f xs x ∙ ap (λ s. list_any test (map f xs) || (test s || false)) e ∙ ap (λ g. list_any test (map f xs) || list_any (λ s. test (with_names names s set)) g) (sym is)

pub lists_empty : (names set : List ℕ) (family before : Family) → family ≡ [] → ListsMore names set family before before
lists_empty names set family before is test = none (list_any test before) ∙ ap (λ g. list_any test before || list_any (λ s. test (with_names names s set)) g) (sym is)
  where
    none : (b : Bool) → b ≡ (b || false)
    none true = refl
    none false = refl

-- what a `make` answers, from what holds of its branch
pub grown : (s0 s1 s2 : Families) (set : List ℕ) (id : Id) {family : Family} (result : Result Id AllocError) → Keeps s0 s1 → Keeps s1 s2 → IfOk result (IsIn s2) → IfOk result (λ answer. family_of s2 answer ≡ family)
    → ((answer : Id) → IsIn s2 answer → family_of s2 answer ≡ family → HasOneMore s2 set (family_of s0 id) answer) → OneMore s0 s2 set id result
grown s0 s1 s2 set id (Ok answer) k1 k2 found made right = record { kept = Keeps_trans s0 s1 s2 k1 k2; answer = right answer found made }
grown s0 s1 s2 set id (Err e) k1 k2 found made right = record { kept = Keeps_trans s0 s1 s2 k1 k2; answer = tt }

-- a variable is a number below 2 ^ 32
pub node_fits : (store : Families) (node : Node) → Fits store node → node.var < 4294967296
node_fits store node fits = let above : node.var < least_number (family_of store node.lo) = fits.lo_greater in omega (arith, least_number-most (family_of store node.lo))

-- what is greater than the numbers of a set and of a family are not less than is greater for the two together
pub above_more : (store : Families) (set : List ℕ) (family : Family) (id : Id) (var : ℕ) → var < least_of set → var < least_number family → HasOneMore store set family id → var < least_number (family_of store id)
above_more store set family id var h k more = let low : min (least_of set) (least_number family) ≤ least_number (family_of store id) = more.least in omega arith

least_of-most : (set : List ℕ) → least_of set ≤ 4294967296
unfolding least_of
least_of-most [] = omega arith
least_of-most (n ∷ ns) = let rest : least_of ns ≤ 4294967296 = least_of-most ns in omega arith

-- the family of one set alone, from that of its rest
pub one_more_alone : (s0 s1 s2 : Families) (set : List ℕ) (first : ℕ) (rest : List ℕ) (more answer : Id) → IsSound s0 → set ≡ first ∷ rest → first < least_of rest → Keeps s0 s1 → HasOneMore s1 rest (family_at s0 0) more
    → IsIn s2 answer → family_of s2 answer ≡ branch first (family_at s1 0) (family_of s1 more) → HasOneMore s2 set (family_at s0 0) answer
one_more_alone s0 s1 s2 set first rest more answer sound is above kept has answer_in made =
    subst (λ s. HasOneMore s2 s (family_at s0 0) answer) (sym is)
    (one_more_hi s0 s1 s2 (family_at s0 0) first rest none none more answer (omega (arith, sound.some)) (omega (arith, low, least-empty s0 sound)) (omega (arith, low, least-empty s0 sound)) above
    (sym (ap (branch first (family_at s0 0)) sound.empty ∙ branch-empty first (family_at s0 0))) kept has answer_in made)
  where
    none : Id
    none = record { position = 0 }

    low : first < 4294967296
    low = omega (arith, above, least_of-most rest)

-- EMPTY has no number that is not greater than one that a set has before others
pub empty_above : (s0 s1 : Families) (first : ℕ) (rest : List ℕ) → IsSound s0 → Keeps s0 s1 → first < least_of rest → first < least_number (family_at s1 0)
empty_above s0 s1 first rest sound kept above =
    let some : 1 < length s0 = sound.some in
    let same : least_number (family_at s1 0) ≡ least_number (family_at s0 0) = ap least_number (kept.same 0 (omega arith)) in
    omega (arith, least-empty s0 sound, least_of-most rest)

-- a variable that is less than the first number of a rising set is less than all
pub before_first : (var first : ℕ) (rest set : List ℕ) → set ≡ first ∷ rest → first < least_of rest → var < first → var < least_of set
unfolding least_of
before_first var first rest set is above less = subst (λ s. var < least_of s) (sym is) (omega arith)

-- a number that is less than the variables of a family
pub node_above : (var first : ℕ) (family : Family) → least_number family ≡ var → first ≤ var → (var ≡ first → ⊥) → first < least_number family
node_above var first family least low other = omega arith

pub terminal_above : (store : Families) (id : Id) (first : ℕ) (rest : List ℕ) → IsSound store → id.position < 2 → first < least_of rest → first < least_number (family_of store id)
terminal_above store id first rest sound h above = omega (arith, least-terminal store id.position sound h, least_of-most rest)

-- with all sets of a family listed, the list has it renamed
pub all_listed : (names : List ℕ) (family before after : Family) → before ≡ [] → ListsMore names [] family before after → AreRenamed names family after
all_listed names family before after none listed test =
    listed test ∙ ap (λ f. list_any test f || list_any (λ s. test (with_names names s [])) family) none ∙ (λ i. list_any (λ s. test (names_renamed names s i)) family)

-- the sets of a list from a place on, with the one before
pub has_more : {A : Type 0} (s0 s1 : Families) (f : A → List ℕ) (sets : List A) (at : ℕ) (set : A) (family answer : Id) → 0 < at → at ≤ length sets → set ≡ get_or sets (at - 1) set
    → HasSets s0 (map f (drop at sets)) family → HasOneMore s1 (f set) (family_of s0 family) answer → HasSets s1 (map f (drop (at - 1) sets)) answer
has_more s0 s1 f sets at set family answer some within is has more =
    let here : at - 1 < length sets = omega arith in
    let next : suc (at - 1) ≡ at = omega arith in
    let split : drop (at - 1) sets ≡ set ∷ drop at sets = drop-cons sets (at - 1) set here ∙ ap (λ x. x ∷ drop (suc (at - 1)) sets) (sym is) ∙ ap (λ n. set ∷ drop n sets) next in
    record {
      found = more.found;
      any = λ test. more.any test ∙ ap (λ b. test (f set) || b) (has.any test) ∙ ap (λ xs. list_any test (map f xs)) (sym split);
    }
