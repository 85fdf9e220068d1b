-- The ways through the product of two families of minimal sets, as far as sets are asked for.
use Rattle.std.proofs.Common.{◌≡◌, ℕ, ◌+◌, ◌<◌, ◌≤◌, min, Bool, true, false, ◌&&◌, ◌||◌, List, length, Result, Ok, Err, refl, sym, ap, ◌∙◌, subst, arith}
use Rattle.std.specs.declared.alloc.AllocError.{AllocError}
use Rattle.zdd_store.specs.inner.Family.{Family, least_number, has, covers, IsAntichain}
use Rattle.zdd_store.specs.inner.Store.{Families, IsIn, family_at, family_of, Keeps, IsSound}
use Rattle.zdd_store.specs.inner.Answers.{IsLeastFamily, IsAsked, IsLeastUpTo, IsProductUpTo}
use Rattle.zdd_store.specs.declared.id.Id.{Id}
use Rattle.zdd_store.proofs.Orders.{contains_none}
use Rattle.zdd_store.proofs.Terminals.{least-empty}
use Rattle.zdd_families.specs.inner.Steps.{IsFound, Answered, IsSplit, CanCross, IsOperand, joined, either, both, across}
use Rattle.zdd_families.specs.inner.Rows.{with_part}
use Rattle.zdd_families.specs.declared.split.Parts.{Parts}
use Rattle.zdd_families.proofs.Covers.{covers-branch}
use Rattle.zdd_families.proofs.Above.{above, above-shorter, covers-above, least_number-most}
use Rattle.zdd_families.proofs.Ways.{answered, Keeps_trans}
use Rattle.zdd_families.proofs.Pairs.{covers-empty, least_kept}

-- what is least up to a bound for one test is so for an equal one
pub retest_to : (most : ℕ) (test other : List ℕ → Bool) (family : Family) → ((set : List ℕ) → IsAsked most set → test set ≡ other set) → IsLeastUpTo most test family → IsLeastUpTo most other family
retest_to most test other family same least = record { covering = λ set asked. least.covering set asked ∙ same set asked; apart = least.apart }

-- where each set is asked for
pub least_of_all : (test : List ℕ → Bool) (family : Family) → IsLeastUpTo 4294967295 test family → IsLeastFamily test family
least_of_all test family least = record { covering = λ set. least.covering set (λ h. absurd (omega arith)); apart = least.apart }

pub least_up_to : (most : ℕ) (test : List ℕ → Bool) (family : Family) → IsLeastFamily test family → IsLeastUpTo most test family
least_up_to most test family least = record { covering = λ set asked. least.covering set; apart = least.apart }

-- an operand that covers what both cover, as far as it is asked for
pub operand_asked : (before after : Families) (a b id : Id) (most : ℕ) (result : Result Id AllocError) → IsOperand before a b id
    → Answered before after (least_number (family_of before id)) (IsLeastUpTo most (covers (family_of before id))) result
    → Answered before after (min (least_number (family_of before a)) (least_number (family_of before b))) (IsProductUpTo most (family_of before a) (family_of before b)) result
operand_asked before after a b id most (Ok answer) is asked =
    let low : min (least_number (family_of before a)) (least_number (family_of before b)) ≤ least_number (family_of before id) = is.least in
    let more : least_number (family_of before id) ≤ least_number (family_of after answer) = asked.answer.least in
    let bound : min (least_number (family_of before a)) (least_number (family_of before b)) ≤ least_number (family_of after answer) = omega arith in
    record {
      kept = asked.kept;
      answer = record {
        found = asked.answer.found;
        least = bound;
        right = record { least = bound; right = retest_to most (covers (family_of before id)) (both (family_of before a) (family_of before b)) (family_of after answer) (λ set h. is.same set) asked.answer.right };
      };
    }
operand_asked before after a b id most (Err e) is asked = record { kept = asked.kept; answer = tt }

-- where no set that is asked for is covered by both, there is no set
pub none_asked : (store : Families) (a b : Id) (most : ℕ) → IsSound store → ((set : List ℕ) → IsAsked most set → both (family_of store a) (family_of store b) set ≡ false)
    → Answered store store (min (least_number (family_of store a)) (least_number (family_of store b))) (IsProductUpTo most (family_of store a) (family_of store b)) (Ok (record { position = 0 }))
none_asked store a b most sound none =
    let some : 1 < length store = sound.some in
    let empty : least_number (family_at store 0) ≡ 4294967296 = least-empty store sound in
    let low : least_number (family_of store a) ≤ 4294967296 = least_number-most (family_of store a) in
    let bound : min (least_number (family_of store a)) (least_number (family_of store b)) ≤ least_number (family_at store 0) = omega arith in
    answered (record { position = 0 }) (omega arith) bound
    (record {
      least = bound;
      right = record {
        covering = λ set asked. covers-empty store (record { position = 0 }) set sound refl ∙ sym (none set asked);
        apart = subst IsAntichain (sym sound.empty) (λ part whole here there h. absurd (contains_none part here));
      };
    })

-- what is right for more sets is right for those that are asked for
pub product_told : (before after : Families) (a b : Id) (most bound : ℕ) (result : Result Id AllocError) → ((set : List ℕ) → IsAsked most set → IsAsked bound set)
    → Answered before after (min (least_number (family_of before a)) (least_number (family_of before b))) (IsProductUpTo bound (family_of before a) (family_of before b)) result
    → Answered before after (min (least_number (family_of before a)) (least_number (family_of before b))) (IsProductUpTo most (family_of before a) (family_of before b)) result
product_told before after a b most bound (Ok id) asked p =
    record {
      kept = p.kept;
      answer = record {
        found = p.answer.found;
        least = p.answer.least;
        right = record { least = p.answer.least; right = record { covering = λ set h. p.answer.right.right.covering set (asked set h); apart = p.answer.right.right.apart } };
      };
    }
product_told before after a b most bound (Err e) asked p = record { kept = p.kept; answer = tt }

and_turned : (a b : Bool) → (a && b) ≡ (b && a)
and_turned true true = refl
and_turned true false = refl
and_turned false true = refl
and_turned false false = refl

-- the order of the two does not matter
pub product_turned : (before after : Families) (a b : Id) (most bound : ℕ) (result : Result Id AllocError) → ((set : List ℕ) → IsAsked most set → IsAsked bound set)
    → Answered before after (min (least_number (family_of before b)) (least_number (family_of before a))) (IsProductUpTo bound (family_of before b) (family_of before a)) result
    → Answered before after (min (least_number (family_of before a)) (least_number (family_of before b))) (IsProductUpTo most (family_of before a) (family_of before b)) result
product_turned before after a b most bound (Ok id) asked p =
    let low : min (least_number (family_of before b)) (least_number (family_of before a)) ≤ least_number (family_of after id) = p.answer.least in
    let bound_is : min (least_number (family_of before a)) (least_number (family_of before b)) ≤ least_number (family_of after id) = omega arith in
    record {
      kept = p.kept;
      answer = record {
        found = p.answer.found;
        least = bound_is;
        right = record {
          least = bound_is;
          right = record {
            covering = λ set h. p.answer.right.right.covering set (asked set h) ∙ and_turned (covers (family_of before b) set) (covers (family_of before a) set);
            apart = p.answer.right.right.apart;
          };
        };
      };
    }
product_turned before after a b most bound (Err e) asked p = record { kept = p.kept; answer = tt }

both_bits : (h la lb ha hb : Bool) → ((la && lb) || (h && ((ha && (lb || hb)) || (la && hb)))) ≡ ((la || (h && ha)) && (lb || (h && hb)))
both_bits true true true ha hb = refl
both_bits true true false true true = refl
both_bits true true false true false = refl
both_bits true true false false hb = refl
both_bits true false true true hb = refl
both_bits true false false true true = refl
both_bits true false false true false = refl
both_bits true false true false hb = refl
both_bits true false false false hb = refl
both_bits false true true ha hb = refl
both_bits false true false ha hb = refl
both_bits false false lb ha hb = refl

-- a kept family covers what it did
covers_kept : (before after : Families) (id : Id) (set : List ℕ) → Keeps before after → IsIn before id → covers (family_of after id) set ≡ covers (family_of before id) set
covers_kept before after id set kept found = ap (λ f. covers f set) (kept.same id.position found)

-- what crosses looks at the numbers behind the variable alone
across-above : (store : Families) (first second : Parts) (var : ℕ) (set : List ℕ) → CanCross store var first → CanCross store var second → across store first second (above (var + 1) set) ≡ across store first second set
across-above store first second var set one two =
    let fl : covers (family_of store first.lo) (above (var + 1) set) ≡ covers (family_of store first.lo) set = covers-above (var + 1) (family_of store first.lo) set (omega (arith, one.lo_greater)) in
    let fh : covers (family_of store first.hi) (above (var + 1) set) ≡ covers (family_of store first.hi) set = covers-above (var + 1) (family_of store first.hi) set (omega (arith, one.hi_greater)) in
    let sl : covers (family_of store second.lo) (above (var + 1) set) ≡ covers (family_of store second.lo) set = covers-above (var + 1) (family_of store second.lo) set (omega (arith, two.lo_greater)) in
    let sh : covers (family_of store second.hi) (above (var + 1) set) ≡ covers (family_of store second.hi) set = covers-above (var + 1) (family_of store second.hi) set (omega (arith, two.hi_greater)) in
    λ i. (fh i && (sl i || sh i)) || (fl i && sh i)

-- the minimal sets of the unions of two branches, from those of their children
module _ (before s1 s2 after : Families) (a b lo hi answer : Id) (first second : Parts) (var most rest l1 l3 : ℕ)
    (split_a : IsSplit before a var first) (split_b : IsSplit before b var second) (k1 : Keeps before s1) (k2 : Keeps s1 s2)
    (one : CanCross s1 var first) (two : CanCross s1 var second)
    (fewer : (size : ℕ) → (most < 4294967295 → size + 1 ≤ most) → rest < 4294967295 → size ≤ rest) where
  covers_a : (set : List ℕ) → covers (family_of before a) set ≡ (covers (family_of before first.lo) set || (has set var && covers (family_of before first.hi) set))
  covers_a set = ap (λ f. covers f set) split_a.family ∙ covers-branch var (family_of before first.lo) (family_of before first.hi) set

  covers_b : (set : List ℕ) → covers (family_of before b) set ≡ (covers (family_of before second.lo) set || (has set var && covers (family_of before second.hi) set))
  covers_b set = ap (λ f. covers f set) split_b.family ∙ covers-branch var (family_of before second.lo) (family_of before second.hi) set

  across_before : (set : List ℕ) → across s1 first second set ≡ across before first second set
  across_before set =
      let fl : covers (family_of s1 first.lo) set ≡ covers (family_of before first.lo) set = covers_kept before s1 first.lo set k1 split_a.lo_in in
      let fh : covers (family_of s1 first.hi) set ≡ covers (family_of before first.hi) set = covers_kept before s1 first.hi set k1 split_a.hi_in in
      let sl : covers (family_of s1 second.lo) set ≡ covers (family_of before second.lo) set = covers_kept before s1 second.lo set k1 split_b.lo_in in
      let sh : covers (family_of s1 second.hi) set ≡ covers (family_of before second.hi) set = covers_kept before s1 second.hi set k1 split_b.hi_in in
      λ i. (fh i && (sl i || sh i)) || (fl i && sh i)

  -- a set with the variable is asked for without it
  asked_above : (set : List ℕ) → IsAsked most set → has set var ≡ true → IsAsked rest (above (var + 1) set)
  asked_above set asked here = fewer (length (above (var + 1) set)) (λ fits.
      let short : length set ≤ most = asked fits in
      let less : length (above (var + 1) set) + 1 ≤ length set = above-shorter (var + 1) set var here (omega arith) in
      omega arith)

  pub both_made : IsFound s1 l1 (IsProductUpTo most (family_of before first.lo) (family_of before second.lo)) lo
      → IsFound s2 (var + 1) (IsLeastUpTo rest (across s1 first second)) hi
      → IsFound after l3 (IsLeastFamily (joined var (family_of s2 lo) (family_of s2 hi))) answer
      → IsLeastUpTo most (both (family_of before a) (family_of before b)) (family_of after answer)
  both_made f1 f2 f3 = record { covering = λ set asked. f3.right.covering set ∙ same set asked; apart = f3.right.apart }
    where
      of_hi : (set : List ℕ) → IsAsked most set → (c : Bool) → has set var ≡ c → (c && covers (family_of s2 hi) set) ≡ (c && across before first second set)
      of_hi set asked false e = refl
      of_hi set asked true e =
          sym (covers-above (var + 1) (family_of s2 hi) set f2.least)
          ∙ f2.right.covering (above (var + 1) set) (asked_above set asked e)
          ∙ across-above s1 first second var set one two ∙ across_before set

      same : (set : List ℕ) → IsAsked most set → joined var (family_of s2 lo) (family_of s2 hi) set ≡ both (family_of before a) (family_of before b) set
      same set asked =
          let low : covers (family_of s2 lo) set ≡ both (family_of before first.lo) (family_of before second.lo) set = covers_kept s1 s2 lo set k2 f1.found ∙ f1.right.right.covering set asked in
          let high : (has set var && covers (family_of s2 hi) set) ≡ (has set var && across before first second set) = of_hi set asked (has set var) refl in
          let together : joined var (family_of s2 lo) (family_of s2 hi) set ≡ (both (family_of before first.lo) (family_of before second.lo) set || (has set var && across before first second set)) = λ i. low i || high i in
          together
          ∙ both_bits (has set var) (covers (family_of before first.lo) set) (covers (family_of before second.lo) set) (covers (family_of before first.hi) set) (covers (family_of before second.hi) set)
          ∙ (λ i. sym (covers_a set) i && sym (covers_b set) i)

-- where the first family has no set with the variable
pub across_none : (before after : Families) (first second : Parts) (var most : ℕ) (result : Result Id AllocError) → IsSound before → first.hi.position ≡ 0 → CanCross before var first → CanCross before var second
    → Answered before after (min (least_number (family_of before first.lo)) (least_number (family_of before second.hi))) (IsProductUpTo most (family_of before first.lo) (family_of before second.hi)) result
    → Answered before after (var + 1) (IsLeastUpTo most (across before first second)) result
across_none before after first second var most (Ok id) sound e one two p =
    let low : min (least_number (family_of before first.lo)) (least_number (family_of before second.hi)) ≤ least_number (family_of after id) = p.answer.least in
    let none : (set : List ℕ) → covers (family_of before first.hi) set ≡ false = λ set. covers-empty before first.hi set sound e in
    record {
      kept = p.kept;
      answer = record {
        found = p.answer.found;
        least = omega (arith, one.lo_greater, two.hi_greater);
        right = retest_to most (both (family_of before first.lo) (family_of before second.hi)) (across before first second) (family_of after id)
            (λ set h. λ i. (sym (none set) i && either (family_of before second.lo) (family_of before second.hi) set) || both (family_of before first.lo) (family_of before second.hi) set)
            p.answer.right.right;
      };
    }
across_none before after first second var most (Err e) sound none one two p = record { kept = p.kept; answer = tt }

-- the union of what each family covers with the variable
pub across_made : (before s1 s2 s3 after : Families) (first second : Parts) (any with_first with_second : Id) (var most l2 l3 : ℕ) (result : Result Id AllocError)
    → CanCross before var first → CanCross before var second → Keeps before s1 → Keeps s1 s2 → Keeps s2 s3
    → IsFound s1 (min (least_number (family_of before second.lo)) (least_number (family_of before second.hi))) (IsLeastFamily (either (family_of before second.lo) (family_of before second.hi))) any
    → IsFound s2 l2 (IsProductUpTo most (family_of s1 first.hi) (family_of s1 any)) with_first
    → IsFound s3 l3 (IsProductUpTo most (family_of s2 first.lo) (family_of s2 second.hi)) with_second
    → Answered s3 after (min (least_number (family_of s3 with_first)) (least_number (family_of s3 with_second))) (IsLeastFamily (either (family_of s3 with_first) (family_of s3 with_second))) result
    → Answered before after (var + 1) (IsLeastUpTo most (across before first second)) result
across_made before s1 s2 s3 after first second any with_first with_second var most l2 l3 (Ok id) one two k1 k2 k3 f1 f2 f3 u =
    let k12 : Keeps before s2 = Keeps_trans before s1 s2 k1 k2 in
    let first_kept : least_number (family_of s1 first.hi) ≡ least_number (family_of before first.hi) = least_kept before s1 first.hi k1 one.hi_in in
    let lo_kept : least_number (family_of s2 first.lo) ≡ least_number (family_of before first.lo) = least_kept before s2 first.lo k12 one.lo_in in
    let hi_kept : least_number (family_of s2 second.hi) ≡ least_number (family_of before second.hi) = least_kept before s2 second.hi k12 two.hi_in in
    let with_kept : least_number (family_of s3 with_first) ≡ least_number (family_of s2 with_first) = least_kept s2 s3 with_first k3 f2.found in
    record {
      kept = Keeps_trans before s3 after (Keeps_trans before s2 s3 k12 k3) u.kept;
      answer = record {
        found = u.answer.found;
        least = omega (arith, u.answer.least, f1.least, f2.right.least, f3.right.least, one.lo_greater, one.hi_greater, two.lo_greater, two.hi_greater);
        right = record { covering = λ set asked. u.answer.right.covering set ∙ same set asked; apart = u.answer.right.apart };
      };
    }
  where
    same : (set : List ℕ) → IsAsked most set → either (family_of s3 with_first) (family_of s3 with_second) set ≡ across before first second set
    same set asked =
        let k12 : Keeps before s2 = Keeps_trans before s1 s2 k1 k2 in
        let fh : covers (family_of s1 first.hi) set ≡ covers (family_of before first.hi) set = covers_kept before s1 first.hi set k1 one.hi_in in
        let any_is : covers (family_of s1 any) set ≡ either (family_of before second.lo) (family_of before second.hi) set = f1.right.covering set in
        let fl : covers (family_of s2 first.lo) set ≡ covers (family_of before first.lo) set = covers_kept before s2 first.lo set k12 one.lo_in in
        let sh : covers (family_of s2 second.hi) set ≡ covers (family_of before second.hi) set = covers_kept before s2 second.hi set k12 two.hi_in in
        let first_is : covers (family_of s3 with_first) set ≡ (covers (family_of before first.hi) set && either (family_of before second.lo) (family_of before second.hi) set) =
        covers_kept s2 s3 with_first set k3 f2.found ∙ f2.right.right.covering set asked ∙ (λ i. fh i && any_is i) in
        let second_is : covers (family_of s3 with_second) set ≡ both (family_of before first.lo) (family_of before second.hi) set =
        f3.right.right.covering set asked ∙ (λ i. fl i && sh i) in
        λ i. first_is i || second_is i
across_made before s1 s2 s3 after first second any with_first with_second var most l2 l3 (Err e) one two k1 k2 k3 f1 f2 f3 u =
    record { kept = Keeps_trans before s3 after (Keeps_trans before s2 s3 (Keeps_trans before s1 s2 k1 k2) k3) u.kept; answer = tt }

-- an entry of a table of parts, from the product that it has more
pub entry_answered : (before s1 after : Families) (part below here with : Id) (most l1 low : ℕ) (result : Result Id AllocError) → IsIn before here → Keeps before s1
    → IsFound s1 l1 (IsProductUpTo most (family_of before part) (family_of before below)) with
    → Answered s1 after low (IsLeastFamily (either (family_of s1 here) (family_of s1 with))) result
    → Answered before after 0 (IsLeastUpTo most (with_part (family_of before part) (family_of before below) (family_of before here))) result
entry_answered before s1 after part below here with most l1 low (Ok id) here_in kept f u =
    record {
      kept = Keeps_trans before s1 after kept u.kept;
      answer = record {
        found = u.answer.found;
        least = omega arith;
        right = record { covering = λ set asked. u.answer.right.covering set ∙ same set asked; apart = u.answer.right.apart };
      };
    }
  where
    same : (set : List ℕ) → IsAsked most set → either (family_of s1 here) (family_of s1 with) set ≡ with_part (family_of before part) (family_of before below) (family_of before here) set
    same set asked =
        let first : covers (family_of s1 here) set ≡ covers (family_of before here) set = covers_kept before s1 here set kept here_in in
        let second : covers (family_of s1 with) set ≡ both (family_of before part) (family_of before below) set = f.right.right.covering set asked in
        λ i. first i || second i
entry_answered before s1 after part below here with most l1 low (Err e) here_in kept f u = record { kept = Keeps_trans before s1 after kept u.kept; answer = tt }

-- the product of the minimal sets of two families
pub product_answered : (before s1 s2 s3 after : Families) (a b first second id noted : Id) (most l1 l2 l3 : ℕ) → IsIn before b → Keeps before s1 → Keeps s1 s2 → Keeps s2 s3
    → IsFound s1 l1 (IsLeastFamily (covers (family_of before a))) first → IsFound s2 l2 (IsLeastFamily (covers (family_of s1 b))) second
    → IsFound s3 l3 (IsProductUpTo most (family_of s2 first) (family_of s2 second)) id → after ≡ s3 → noted ≡ id
    → Answered before after 0 (IsLeastUpTo most (both (family_of before a) (family_of before b))) (Ok noted)
product_answered before s1 s2 s3 after a b first second id noted most l1 l2 l3 b_in k1 k2 k3 f1 f2 f3 same_store is =
    subst (λ s. Answered before s 0 (IsLeastUpTo most (both (family_of before a) (family_of before b))) (Ok noted)) (sym same_store)
    (record {
      kept = Keeps_trans before s2 s3 (Keeps_trans before s1 s2 k1 k2) k3;
      answer = subst (IsFound s3 0 (IsLeastUpTo most (both (family_of before a) (family_of before b)))) (sym is)
          (record { found = f3.found; least = omega arith; right = record { covering = λ set asked. f3.right.right.covering set asked ∙ same set; apart = f3.right.right.apart } });
    })
  where
    same : (set : List ℕ) → both (family_of s2 first) (family_of s2 second) set ≡ both (family_of before a) (family_of before b) set
    same set =
        let one : covers (family_of s2 first) set ≡ covers (family_of before a) set = covers_kept s1 s2 first set k2 f1.found ∙ f1.right.covering set in
        let two : covers (family_of s2 second) set ≡ covers (family_of before b) set = f2.right.covering set ∙ covers_kept before s1 b set k1 b_in in
        λ i. one i && two i
