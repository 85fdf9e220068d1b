-- The ways through the operations on two families of minimal sets.
use Rattle.std.proofs.Common.{◌≡◌, ℕ, ◌<◌, ◌≤◌, min, Bool, true, false, ◌&&◌, ◌||◌, List, length, Result, Ok, Err, refl, sym, ap, ◌∙◌, subst, arith}
use Rattle.zdd_store.specs.inner.Family.{Family, branch, least_number, has, is_within, covers, IsAntichain}
use Rattle.zdd_store.specs.inner.Store.{Families, IsIn, family_at, family_of, Keeps, IsSound}
use Rattle.zdd_store.specs.inner.Answers.{IsLeastFamily}
use Rattle.zdd_store.specs.declared.id.Id.{Id}
use Rattle.zdd_families.specs.inner.Steps.{IsFound, Answered, IsSplit, CanCross, AnyFamily, joined, either, both}
use Rattle.zdd_families.specs.declared.split.Parts.{Parts}
use Rattle.zdd_families.proofs.Covers.{covers-branch}
use Rattle.zdd_families.proofs.Above.{above, covers-above, least-bound, least_number-most}
use Rattle.std.specs.Prelude.{IfOk}
use Rattle.std.specs.declared.alloc.AllocError.{AllocError}
use Rattle.zdd_store.proofs.Branches.{le-least_number-branch}
use Rattle.zdd_families.proofs.Ways.{answered, retest, Keeps_trans}

-- an antichain stays one
pub apart_kept : (before after : Families) (id : Id) → Keeps before after → IsIn before id → IsAntichain (family_of before id) → IsAntichain (family_of after id)
apart_kept before after id kept here apart = subst IsAntichain (sym (kept.same id.position here)) apart

pub least_kept : (before after : Families) (id : Id) → Keeps before after → IsIn before id → least_number (family_of after id) ≡ least_number (family_of before id)
least_kept before after id kept here = ap least_number (kept.same id.position here)

pub found_kept : (before after : Families) (id : Id) → Keeps before after → IsIn before id → IsIn after id
found_kept before after id kept here = let more : length before ≤ length after = kept.more in omega arith

-- what covers nothing, and what covers all
pub covers-empty : (store : Families) (id : Id) (set : List ℕ) → IsSound store → id.position ≡ 0 → covers (family_of store id) set ≡ false
unfolding covers
covers-empty store id set sound e = ap (λ f. covers f set) (ap (family_at store) e ∙ sound.empty)

pub covers-unit : (store : Families) (id : Id) (set : List ℕ) → IsSound store → id.position ≡ 1 → covers (family_of store id) set ≡ true
unfolding covers is_within
covers-unit store id set sound e = ap (λ f. covers f set) (ap (family_at store) e ∙ sound.unit)

or_same : (b : Bool) → b ≡ (b || b)
or_same true = refl
or_same false = refl

or_none : (b : Bool) → b ≡ (b || false)
or_none true = refl
or_none false = refl

or_all : (b : Bool) → (b || true) ≡ true
or_all true = refl
or_all false = refl

and_same : (b : Bool) → b ≡ (b && b)
and_same true = refl
and_same false = refl

and_all : (b : Bool) → b ≡ (b && true)
and_all true = refl
and_all false = refl

and_none : (b : Bool) → false ≡ (b && false)
and_none true = refl
and_none false = refl

-- an operand that covers as much as the answer should is the answer
pub operand : (store : Families) (id : Id) (low : ℕ) (test : List ℕ → Bool) → IsIn store id → IsAntichain (family_of store id) → low ≤ least_number (family_of store id)
    → ((set : List ℕ) → covers (family_of store id) set ≡ test set) → Answered store store low (IsLeastFamily test) (Ok id)
operand store id low test here apart least same = answered id here least (record { covering = same; apart = apart })

module _ (store : Families) (a b : Id) (sound : IsSound store) where
  pub either_same : a.position ≡ b.position → (set : List ℕ) → covers (family_of store a) set ≡ either (family_of store a) (family_of store b) set
  either_same e set = or_same (covers (family_of store a) set) ∙ ap (λ p. covers (family_of store a) set || covers (family_at store p) set) e

  pub either_second_empty : b.position ≡ 0 → (set : List ℕ) → covers (family_of store a) set ≡ either (family_of store a) (family_of store b) set
  either_second_empty e set = or_none (covers (family_of store a) set) ∙ ap (λ c. covers (family_of store a) set || c) (sym (covers-empty store b set sound e))

  pub either_first_unit : a.position ≡ 1 → (set : List ℕ) → covers (family_of store a) set ≡ either (family_of store a) (family_of store b) set
  either_first_unit e set = covers-unit store a set sound e ∙ ap (λ c. c || covers (family_of store b) set) (sym (covers-unit store a set sound e))

  pub either_first_empty : a.position ≡ 0 → (set : List ℕ) → covers (family_of store b) set ≡ either (family_of store a) (family_of store b) set
  either_first_empty e set = ap (λ c. c || covers (family_of store b) set) (sym (covers-empty store a set sound e))

  pub either_second_unit : b.position ≡ 1 → (set : List ℕ) → covers (family_of store b) set ≡ either (family_of store a) (family_of store b) set
  either_second_unit e set = covers-unit store b set sound e ∙ sym (or_all (covers (family_of store a) set)) ∙ ap (λ c. covers (family_of store a) set || c) (sym (covers-unit store b set sound e))

  pub both_same : a.position ≡ b.position → (set : List ℕ) → covers (family_of store a) set ≡ both (family_of store a) (family_of store b) set
  both_same e set = and_same (covers (family_of store a) set) ∙ ap (λ p. covers (family_of store a) set && covers (family_at store p) set) e

  pub both_first_empty : a.position ≡ 0 → (set : List ℕ) → covers (family_of store a) set ≡ both (family_of store a) (family_of store b) set
  both_first_empty e set = covers-empty store a set sound e ∙ ap (λ c. c && covers (family_of store b) set) (sym (covers-empty store a set sound e))

  pub both_second_unit : b.position ≡ 1 → (set : List ℕ) → covers (family_of store a) set ≡ both (family_of store a) (family_of store b) set
  both_second_unit e set = and_all (covers (family_of store a) set) ∙ ap (λ c. covers (family_of store a) set && c) (sym (covers-unit store b set sound e))

  pub both_second_empty : b.position ≡ 0 → (set : List ℕ) → covers (family_of store b) set ≡ both (family_of store a) (family_of store b) set
  both_second_empty e set = covers-empty store b set sound e ∙ and_none (covers (family_of store a) set) ∙ ap (λ c. covers (family_of store a) set && c) (sym (covers-empty store b set sound e))

  pub both_first_unit : a.position ≡ 1 → (set : List ℕ) → covers (family_of store b) set ≡ both (family_of store a) (family_of store b) set
  both_first_unit e set = ap (λ c. c && covers (family_of store b) set) (sym (covers-unit store a set sound e))

-- the least numbers of the answers
pub least-either : (a b family : Family) → IsLeastFamily (either a b) family → min (least_number a) (least_number b) ≤ least_number family
least-either a b family least =
    let low_a : least_number a ≤ 4294967296 = least_number-most a in
    least-bound (min (least_number a) (least_number b)) (either a b) family (omega arith)
    (λ set. ap (λ c. c || covers b (above (min (least_number a) (least_number b)) set)) (covers-above (min (least_number a) (least_number b)) a set (omega arith))
    ∙ ap (λ c. covers a set || c) (covers-above (min (least_number a) (least_number b)) b set (omega arith))) least

pub least-both : (a b family : Family) → IsLeastFamily (both a b) family → min (least_number a) (least_number b) ≤ least_number family
least-both a b family least =
    let low_a : least_number a ≤ 4294967296 = least_number-most a in
    least-bound (min (least_number a) (least_number b)) (both a b) family (omega arith)
    (λ set. ap (λ c. c && covers b (above (min (least_number a) (least_number b)) set)) (covers-above (min (least_number a) (least_number b)) a set (omega arith))
    ∙ ap (λ c. covers a set && c) (covers-above (min (least_number a) (least_number b)) b set (omega arith))) least

-- what two branches of a variable cover, by their children
either_bits : (h la lb ha hb : Bool) → ((la || lb) || (h && (ha || hb))) ≡ ((la || (h && ha)) || (lb || (h && hb)))
either_bits true true lb ha hb = refl
either_bits true false true true hb = refl
either_bits true false true false hb = refl
either_bits true false false ha hb = refl
either_bits false true lb ha hb = refl
either_bits false false true ha hb = refl
either_bits false false false ha hb = refl

-- the minimal sets of two branches, from those of their children
module _ (before s1 s2 after : Families) (a b lo hi answer : Id) (first second : Parts) (var l1 l2 l3 : ℕ)
    (split_a : IsSplit before a var first) (split_b : IsSplit before b var second) (k1 : Keeps before s1) (k2 : Keeps s1 s2) where
  covers_a : (set : List ℕ) → covers (family_of before a) set ≡ (covers (family_of before first.lo) set || (has set var && covers (family_of before first.hi) set))
  covers_a set = ap (λ f. covers f set) split_a.family ∙ covers-branch var (family_of before first.lo) (family_of before first.hi) set

  covers_b : (set : List ℕ) → covers (family_of before b) set ≡ (covers (family_of before second.lo) set || (has set var && covers (family_of before second.hi) set))
  covers_b set = ap (λ f. covers f set) split_b.family ∙ covers-branch var (family_of before second.lo) (family_of before second.hi) set

  pub either_made : IsFound s1 l1 (IsLeastFamily (either (family_of before first.lo) (family_of before second.lo))) lo
      → IsFound s2 l2 (IsLeastFamily (either (family_of s1 first.hi) (family_of s1 second.hi))) hi
      → IsFound after l3 (IsLeastFamily (joined var (family_of s2 lo) (family_of s2 hi))) answer
      → IsLeastFamily (either (family_of before a) (family_of before b)) (family_of after answer)
  either_made f1 f2 f3 = retest (joined var (family_of s2 lo) (family_of s2 hi)) (either (family_of before a) (family_of before b)) (family_of after answer) same f3.right
    where
      same : (set : List ℕ) → joined var (family_of s2 lo) (family_of s2 hi) set ≡ either (family_of before a) (family_of before b) set
      same set =
          ap (λ f. covers f set || (has set var && covers (family_of s2 hi) set)) (k2.same lo.position f1.found)
          ∙ ap (λ c. c || (has set var && covers (family_of s2 hi) set)) (f1.right.covering set)
          ∙ ap (λ c. either (family_of before first.lo) (family_of before second.lo) set || (has set var && c))
          (f2.right.covering set ∙ ap (λ f. either f (family_of s1 second.hi) set) (k1.same first.hi.position split_a.hi_in) ∙ ap (λ f. either (family_of before first.hi) f set) (k1.same second.hi.position split_b.hi_in))
          ∙ either_bits (has set var) (covers (family_of before first.lo) set) (covers (family_of before second.lo) set) (covers (family_of before first.hi) set) (covers (family_of before second.hi) set)
          ∙ sym (ap (λ c. c || covers (family_of before b) set) (covers_a set) ∙ ap (λ c. (covers (family_of before first.lo) set || (has set var && covers (family_of before first.hi) set)) || c) (covers_b set))

-- a split family of minimal sets can be crossed, also after the store grew
pub can_cross : (before after : Families) (id : Id) (var : ℕ) (parts : Parts) → IsSplit before id var parts → IsAntichain (family_of before id) → Keeps before after → CanCross after var parts
can_cross before after id var parts split apart kept =
    record {
      lo_in = found_kept before after parts.lo kept split.lo_in;
      hi_in = found_kept before after parts.hi kept split.hi_in;
      lo_greater = subst (λ n. var < n) (sym (least_kept before after parts.lo kept split.lo_in)) split.lo_greater;
      hi_greater = subst (λ n. var < n) (sym (least_kept before after parts.hi kept split.hi_in)) split.hi_greater;
      lo_apart = apart_kept before after parts.lo kept split.lo_in (split.lo_apart apart);
      hi_apart = apart_kept before after parts.hi kept split.hi_in (split.hi_apart apart);
    }

-- a branch that was made, and the same from an earlier store on
pub made_any : (before after : Families) (lo hi : Id) (var low : ℕ) (result : Result Id AllocError) → Keeps before after → IfOk result (IsIn after)
    → IfOk result (λ id. family_of after id ≡ branch var (family_of before lo) (family_of before hi)) → low ≤ var → var < least_number (family_of before lo) → var < least_number (family_of before hi)
    → Answered before after low AnyFamily result
made_any before after lo hi var low (Ok id) kept here is h l r =
    let bound : low ≤ least_number (branch var (family_of before lo) (family_of before hi)) = le-least_number-branch low var (family_of before lo) (family_of before hi) h (omega arith) (omega arith) in
    let same : least_number (family_of after id) ≡ least_number (branch var (family_of before lo) (family_of before hi)) = ap least_number is in
    record { kept = kept; answer = record { found = here; least = omega arith; right = tt } }
made_any before after lo hi var low (Err e) kept here is h l r = record { kept = kept; answer = tt }

pub answered_since : (before middle after : Families) (low : ℕ) (IsRight : Family → Type 0) (result : Result Id AllocError) → Keeps before middle → Answered middle after low IsRight result → Answered before after low IsRight result
answered_since before middle after low IsRight result kept a = record { kept = Keeps_trans before middle after kept a.kept; answer = a.answer }
