-- The ways through the operations, from what each call answered to what the operation answers.
use Rattle.std.proofs.Common.{◌≡◌, ℕ, ◌<◌, ◌≤◌, Bool, ◌&&◌, ◌||◌, List, [], length, Result, Ok, Err, refl, sym, ap, ◌∙◌, subst, arith}
use Rattle.std.specs.Prelude.{IfOk}
use Rattle.std.specs.declared.alloc.AllocError.{AllocError}
use Rattle.zdd_store.specs.inner.Family.{Family, branch, least_number, has, covers, IsAntichain, sets_without}
use Rattle.zdd_store.specs.inner.Store.{Families, IsIn, family_at, family_of, Keeps, IsSound}
use Rattle.zdd_store.specs.inner.Answers.{IsLeastFamily, AnswersOne, AnswersTwo}
use Rattle.zdd_store.specs.declared.id.Id.{Id}
use Rattle.zdd_store.proofs.Branches.{le-least_number-branch, branch-empty}
use Rattle.zdd_families.specs.inner.Steps.{IsFound, Answered, IsSplit, joined}
use Rattle.zdd_families.specs.declared.split.Parts.{Parts}
use Rattle.zdd_families.proofs.Joins.{least-filter, without-branch, without-none, without-unit, without-same, least-join}
use Rattle.zdd_families.proofs.Covers.{covers-branch}
use Rattle.zdd_families.proofs.Above.{covers-above, least-bound, least_number-most}

-- an answer that was there before the call
pub answered : {store : Families} {low : ℕ} {IsRight : Family → Type 0} (id : Id) → IsIn store id → low ≤ least_number (family_of store id) → IsRight (family_of store id) → Answered store store low IsRight (Ok id)
answered {store} id here least right = record { kept = record { more = omega arith; same = λ position h. refl }; answer = record { found = here; least = least; right = right } }

pub least-without : (a b : Family) → least_number a ≤ least_number (sets_without a b)
unfolding sets_without
least-without a b = least-filter _ a

-- the sets of a that contain no set of b, by their number
pub answered_without : (store : Families) (a b id : Id) → IsIn store id → family_of store id ≡ sets_without (family_of store a) (family_of store b)
    → Answered store store (least_number (family_of store a)) (λ family. family ≡ sets_without (family_of store a) (family_of store b)) (Ok id)
answered_without store a b id here right =
    let low : least_number (family_of store a) ≤ least_number (sets_without (family_of store a) (family_of store b)) = least-without (family_of store a) (family_of store b) in
    let same : least_number (family_of store id) ≡ least_number (sets_without (family_of store a) (family_of store b)) = ap least_number right in
    answered id here (omega arith) right

pub without-empty : (b : Family) → sets_without [] b ≡ []
unfolding sets_without
without-empty b = refl

-- without a set to leave out, or without a set that could be, the family stays
pub without_empty_first : (store : Families) (a b : Id) → IsSound store → IsIn store a → a.position ≡ 0
    → Answered store store (least_number (family_of store a)) (λ family. family ≡ sets_without (family_of store a) (family_of store b)) (Ok a)
without_empty_first store a b sound here zero_is =
    let none : family_of store a ≡ [] = ap (family_at store) zero_is ∙ sound.empty in
    answered_without store a b a here (none ∙ sym (without-empty (family_of store b)) ∙ ap (λ f. sets_without f (family_of store b)) (sym none))

pub without_empty_second : (store : Families) (a b : Id) → IsSound store → IsIn store a → b.position ≡ 0
    → Answered store store (least_number (family_of store a)) (λ family. family ≡ sets_without (family_of store a) (family_of store b)) (Ok a)
without_empty_second store a b sound here zero_is =
    answered_without store a b a here (sym (ap (sets_without (family_of store a)) (ap (family_at store) zero_is ∙ sound.empty) ∙ without-none (family_of store a)))

-- each set contains itself, and the empty set
empty_id : Id
empty_id = record { position = 0 }

pub without_same : (store : Families) (a b : Id) → IsSound store → IsIn store a → a.position ≡ b.position
    → Answered store store (least_number (family_of store a)) (λ family. family ≡ sets_without (family_of store a) (family_of store b)) (Ok (record { position = 0 }))
without_same store a b sound here same =
    let some = sound.some in
    answered_without store a b (record { position = 0 }) (omega arith)
    (sound.empty ∙ sym (without-same (family_of store a)) ∙ ap (λ p. sets_without (family_of store a) (family_at store p)) same)

pub without_unit : (store : Families) (a b : Id) → IsSound store → b.position ≡ 1
    → Answered store store (least_number (family_of store a)) (λ family. family ≡ sets_without (family_of store a) (family_of store b)) (Ok (record { position = 0 }))
without_unit store a b sound one =
    let some = sound.some in
    answered_without store a b (record { position = 0 }) (omega arith)
    (sound.empty ∙ sym (without-unit (family_of store a)) ∙ ap (sets_without (family_of store a)) (sym (ap (family_at store) one ∙ sound.unit)))

-- the branch of what the three calls answered
pub without_made : (before s1 s2 s3 after : Families) (a b lo beside hi answer : Id) (first second : Parts) (var l1 l2 l3 : ℕ)
    → IsSplit before a var first → IsSplit before b var second
    → Keeps before s1 → Keeps s1 s2 → Keeps s2 s3 → Keeps s3 after
    → IsFound s1 l1 (λ f. f ≡ sets_without (family_of before first.lo) (family_of before second.lo)) lo
    → IsFound s2 l2 (λ f. f ≡ sets_without (family_of s1 first.hi) (family_of s1 second.hi)) beside
    → IsFound s3 l3 (λ f. f ≡ sets_without (family_of s2 beside) (family_of s2 second.lo)) hi
    → family_of after answer ≡ branch var (family_of s3 lo) (family_of s3 hi)
    → family_of after answer ≡ sets_without (family_of before a) (family_of before b)
without_made before s1 s2 s3 after a b lo beside hi answer first second var l1 l2 l3 split_a split_b k1 k2 k3 k4 f1 f2 f3 made =
    let lo_is : family_of s3 lo ≡ sets_without (family_of before first.lo) (family_of before second.lo) =
    k3.same lo.position (let m = k2.more in let here = f1.found in omega arith) ∙ k2.same lo.position f1.found ∙ f1.right in
    let hi_1 : family_of s1 first.hi ≡ family_of before first.hi = k1.same first.hi.position split_a.hi_in in
    let hi_2 : family_of s1 second.hi ≡ family_of before second.hi = k1.same second.hi.position split_b.hi_in in
    let lo_2 : family_of s2 second.lo ≡ family_of before second.lo =
    k2.same second.lo.position (let m = k1.more in let here = split_b.lo_in in omega arith) ∙ k1.same second.lo.position split_b.lo_in in
    let beside_is : family_of s2 beside ≡ sets_without (family_of before first.hi) (family_of before second.hi) = f2.right ∙ ap (λ f. sets_without f (family_of s1 second.hi)) hi_1 ∙ ap (sets_without (family_of before first.hi)) hi_2 in
    let hi_is : family_of s3 hi ≡ sets_without (sets_without (family_of before first.hi) (family_of before second.hi)) (family_of before second.lo) =
    f3.right ∙ ap (λ f. sets_without f (family_of s2 second.lo)) beside_is ∙ ap (sets_without (sets_without (family_of before first.hi) (family_of before second.hi))) lo_2 in
    made ∙ ap (λ f. branch var f (family_of s3 hi)) lo_is ∙ ap (branch var (sets_without (family_of before first.lo) (family_of before second.lo))) hi_is
    ∙ sym (without-branch var (family_of before first.lo) (family_of before first.hi) (family_of before second.lo) (family_of before second.hi)
    split_a.lo_greater split_a.hi_greater split_b.lo_greater split_b.hi_greater)
    ∙ sym (ap (sets_without (family_of before a)) split_b.family ∙ ap (λ f. sets_without f (branch var (family_of before second.lo) (family_of before second.hi))) split_a.family)

-- where the first variable is the second family's alone, only its sets without it count
pub without_skip : (before after : Families) (a b : Id) (first second : Parts) (var : ℕ) (result : Result Id AllocError) → IsSound before → first.hi.position ≡ 0
    → IsSplit before a var first → IsSplit before b var second
    → Answered before after (least_number (family_of before first.lo)) (λ family. family ≡ sets_without (family_of before first.lo) (family_of before second.lo)) result
    → Answered before after (least_number (family_of before a)) (λ family. family ≡ sets_without (family_of before a) (family_of before b)) result
without_skip before after a b first second var result sound zero_is split_a split_b answer =
    let none : family_of before first.hi ≡ [] = ap (family_at before) zero_is ∙ sound.empty in
    let own : family_of before first.lo ≡ family_of before a =
    sym (branch-empty var (family_of before first.lo)) ∙ ap (branch var (family_of before first.lo)) (sym none) ∙ sym split_a.family in
    let whole : sets_without (family_of before a) (family_of before b) ≡ branch var (sets_without (family_of before first.lo) (family_of before second.lo)) (sets_without (sets_without (family_of before first.hi) (family_of before second.hi)) (family_of before second.lo)) =
    ap (sets_without (family_of before a)) split_b.family ∙ ap (λ f. sets_without f (branch var (family_of before second.lo) (family_of before second.hi))) split_a.family
    ∙ without-branch var (family_of before first.lo) (family_of before first.hi) (family_of before second.lo) (family_of before second.hi)
    split_a.lo_greater split_a.hi_greater split_b.lo_greater split_b.hi_greater in
    let nothing : sets_without (sets_without (family_of before first.hi) (family_of before second.hi)) (family_of before second.lo) ≡ [] =
    ap (λ f. sets_without (sets_without f (family_of before second.hi)) (family_of before second.lo)) none
    ∙ ap (λ f. sets_without f (family_of before second.lo)) (without-empty (family_of before second.hi)) ∙ without-empty (family_of before second.lo) in
    let same : sets_without (family_of before first.lo) (family_of before second.lo) ≡ sets_without (family_of before a) (family_of before b) =
    sym (whole ∙ ap (branch var (sets_without (family_of before first.lo) (family_of before second.lo))) nothing ∙ branch-empty var (sets_without (family_of before first.lo) (family_of before second.lo))) in
    subst (λ g. Answered before after (least_number (family_of before a)) (λ family. family ≡ g) result) same
    (subst (λ f. Answered before after (least_number f) (λ family. family ≡ sets_without (family_of before first.lo) (family_of before second.lo)) result) own answer)

-- what each call keeps, all keep
pub Keeps_trans : (a b c : Families) → Keeps a b → Keeps b c → Keeps a c
Keeps_trans a b c k m =
    let more_k : length a ≤ length b = k.more in
    let more_m : length b ≤ length c = m.more in
    record { more = omega arith; same = λ position h. m.same position (omega arith) ∙ k.same position h }

pub Keeps_four : (a b c d e : Families) → Keeps a b → Keeps b c → Keeps c d → Keeps d e → Keeps a e
Keeps_four a b c d e k l m n = Keeps_trans a d e (Keeps_trans a c d (Keeps_trans a b c k l) m) n

-- an answer for the families as they were before is one for them as they are
pub answers_two : (before after : Families) (IsRight : Family → Family → Family → Type 0) (a b id : Id) → Keeps before after → IsIn before a → IsIn before b → IsIn after id
    → IsRight (family_of before a) (family_of before b) (family_of after id) → AnswersTwo after IsRight a.position b.position id.position
answers_two before after IsRight a b id kept in_a in_b here right =
    let more : length before ≤ length after = kept.more in
    record {
      first_in = omega arith;
      second_in = omega arith;
      answer_in = here;
      right = subst (λ f. IsRight f (family_of after b) (family_of after id)) (sym (kept.same a.position in_a))
          (subst (λ f. IsRight (family_of before a) f (family_of after id)) (sym (kept.same b.position in_b)) right);
    }

pub answers_one : (before after : Families) (IsRight : Family → Family → Type 0) (a id : Id) → Keeps before after → IsIn before a → IsIn after id
    → IsRight (family_of before a) (family_of after id) → AnswersOne after IsRight a.position id.position
answers_one before after IsRight a id kept in_a here right =
    let more : length before ≤ length after = kept.more in
    record {
      first_in = omega arith;
      answer_in = here;
      right = subst (λ f. IsRight f (family_of after id)) (sym (kept.same a.position in_a)) right;
    }

-- an answer that is remembered for the families as they are is one for them as they were before
pub finish_two : (before after : Families) (IsRight : Family → Family → Family → Type 0) (low : ℕ) (a b : Id) (result : Result Id AllocError) → Keeps before after → IsIn before a → IsIn before b
    → ((family : Family) → IsRight (family_of before a) (family_of before b) family → low ≤ least_number family)
    → IfOk result (λ id. AnswersTwo after IsRight a.position b.position id.position)
    → Answered before after low (IsRight (family_of before a) (family_of before b)) result
finish_two before after IsRight low a b (Ok id) kept in_a in_b least r =
    let right : IsRight (family_of before a) (family_of before b) (family_of after id) =
    subst (λ f. IsRight f (family_of before b) (family_of after id)) (kept.same a.position in_a)
    (subst (λ f. IsRight (family_of after a) f (family_of after id)) (kept.same b.position in_b) r.right) in
    record { kept = kept; answer = record { found = r.answer_in; least = least (family_of after id) right; right = right } }
finish_two before after IsRight low a b (Err e) kept in_a in_b least r = record { kept = kept; answer = tt }

pub finish_one : (before after : Families) (IsRight : Family → Family → Type 0) (low : ℕ) (a : Id) (result : Result Id AllocError) → Keeps before after → IsIn before a
    → ((family : Family) → IsRight (family_of before a) family → low ≤ least_number family)
    → IfOk result (λ id. AnswersOne after IsRight a.position id.position)
    → Answered before after low (IsRight (family_of before a)) result
finish_one before after IsRight low a (Ok id) kept in_a least r =
    let right : IsRight (family_of before a) (family_of after id) = subst (λ f. IsRight f (family_of after id)) (kept.same a.position in_a) r.right in
    record { kept = kept; answer = record { found = r.answer_in; least = least (family_of after id) right; right = right } }
finish_one before after IsRight low a (Err e) kept in_a least r = record { kept = kept; answer = tt }

-- a join, from the sets of hi that contain none of lo
pub joined_finish : (before middle after : Families) (lo hi others : Id) (var low : ℕ) (result : Result Id AllocError)
    → Keeps before middle → Keeps middle after → IsIn before lo
    → IsFound middle low (λ f. f ≡ sets_without (family_of before hi) (family_of before lo)) others
    → IfOk result (IsIn after) → IfOk result (λ id. family_of after id ≡ branch var (family_of middle lo) (family_of middle others))
    → var < least_number (family_of before lo) → var < least_number (family_of before hi) → IsAntichain (family_of before lo) → IsAntichain (family_of before hi)
    → Answered before after var (IsLeastFamily (joined var (family_of before lo) (family_of before hi))) result
joined_finish before middle after lo hi others var low (Err e) k m in_lo f here is l r apart_lo apart_hi = record { kept = Keeps_trans before middle after k m; answer = tt }
joined_finish before middle after lo hi others var low (Ok id) k m in_lo f here is l r apart_lo apart_hi =
    let made : family_of after id ≡ branch var (family_of before lo) (sets_without (family_of before hi) (family_of before lo)) =
    is ∙ ap (λ x. branch var x (family_of middle others)) (k.same lo.position in_lo) ∙ ap (branch var (family_of before lo)) f.right in
    let fewer : least_number (family_of before hi) ≤ least_number (sets_without (family_of before hi) (family_of before lo)) = least-without (family_of before hi) (family_of before lo) in
    let low_is : var ≤ least_number (branch var (family_of before lo) (sets_without (family_of before hi) (family_of before lo))) =
    le-least_number-branch var var (family_of before lo) (sets_without (family_of before hi) (family_of before lo)) (omega arith) (omega arith) (omega arith) in
    record {
      kept = Keeps_trans before middle after k m;
      answer = record {
        found = here;
        least = subst (λ x. var ≤ least_number x) (sym made) low_is;
        right = subst (IsLeastFamily (joined var (family_of before lo) (family_of before hi))) (sym made)
            (least-join var (family_of before lo) (family_of before hi) l r apart_lo apart_hi);
      };
    }

-- a least family for a test is one for a test that is equal
pub retest : (test other : List ℕ → Bool) (family : Family) → ((set : List ℕ) → test set ≡ other set) → IsLeastFamily test family → IsLeastFamily other family
retest test other family same least = record { covering = λ set. least.covering set ∙ same set; apart = least.apart }

-- the minimal sets of a family have no smaller numbers than it
pub least-minimal : (a family : Family) → IsLeastFamily (covers a) family → least_number a ≤ least_number family
least-minimal a family least = least-bound (least_number a) (covers a) family (least_number-most a) (λ set. covers-above (least_number a) a set (omega arith)) least

pub Keeps_same : (store : Families) → Keeps store store
Keeps_same store = record { more = omega arith; same = λ position h. refl }

-- the minimal sets of a branch, from those of its children
pub minimal_made : (before s1 s2 after : Families) (a lo hi answer : Id) (parts : Parts) (var l1 l2 l3 : ℕ)
    → IsSplit before a var parts → Keeps before s1 → Keeps s1 s2
    → IsFound s1 l1 (IsLeastFamily (covers (family_of before parts.lo))) lo
    → IsFound s2 l2 (IsLeastFamily (covers (family_of s1 parts.hi))) hi
    → IsFound after l3 (IsLeastFamily (joined var (family_of s2 lo) (family_of s2 hi))) answer
    → IsLeastFamily (covers (family_of before a)) (family_of after answer)
minimal_made before s1 s2 after a lo hi answer parts var l1 l2 l3 split k1 k2 f1 f2 f3 =
    retest (joined var (family_of s2 lo) (family_of s2 hi)) (covers (family_of before a)) (family_of after answer) same f3.right
  where
    same : (set : List ℕ) → joined var (family_of s2 lo) (family_of s2 hi) set ≡ covers (family_of before a) set
    same set =
        ap (λ f. covers f set || (has set var && covers (family_of s2 hi) set)) (k2.same lo.position f1.found)
        ∙ ap (λ b. b || (has set var && covers (family_of s2 hi) set)) (f1.right.covering set)
        ∙ ap (λ b. covers (family_of before parts.lo) set || (has set var && b)) (f2.right.covering set ∙ ap (λ f. covers f set) (k1.same parts.hi.position split.hi_in))
        ∙ sym (covers-branch var (family_of before parts.lo) (family_of before parts.hi) set) ∙ ap (λ f. covers f set) (sym split.family)
