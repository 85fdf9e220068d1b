-- Families that are joined branch by branch, where at a variable what is covered with it is no less than without it.
use Rattle.std.proofs.Common.{◌≡◌, ℕ, ◌<◌, ◌≤◌, min, Bool, true, false, ◌&&◌, ◌||◌, not, List, [], ◌∷◌, filter, Contains, Result, Ok, Err, refl, sym, ap, ◌∙◌, subst, arith}
use Rattle.std.specs.Prelude.{IsTrue}
use Rattle.std.specs.declared.alloc.AllocError.{AllocError}
use Rattle.std.proofs.lemmas.Bool.{false≢true}
use Rattle.zdd_store.specs.inner.Family.{Family, branch, least_number, has, covers, sets_without}
use Rattle.zdd_store.specs.inner.Store.{Families, IsIn, family_at, family_of, family_with, Keeps, Fits}
use Rattle.zdd_store.specs.inner.Answers.{IsCovering, IsWide}
use Rattle.zdd_store.specs.declared.id.Id.{Id}
use Rattle.zdd_store.specs.declared.id.Node.{Node}
use Rattle.zdd_store.proofs.Branches.{branch-empty, same_branch, le-least_number-branch}
use Rattle.zdd_families.specs.inner.Steps.{IsFound, Answered, IsSplit, joined}
use Rattle.zdd_families.specs.inner.Rising.{ArePartsOf, AreBothParts}
use Rattle.zdd_families.specs.declared.split.Parts.{Parts}
use Rattle.zdd_families.specs.declared.wide.BothParts.{BothParts}
use Rattle.zdd_families.proofs.Booleans.{or_left, or_right}
use Rattle.zdd_families.proofs.Subsets.{has_first}
use Rattle.zdd_families.proofs.Covers.{covers-branch, covers-with, member-greater}
use Rattle.zdd_families.proofs.Joins.{filter-branch, same_filter}
use Rattle.zdd_families.proofs.Pairs.{found_kept}
use Rattle.zdd_families.proofs.Ways.{answered, Keeps_trans}

-- what is no node is its own two parts
same_parts_bits : (h c : Bool) → c ≡ (c || (h && c))
same_parts_bits true true = refl
same_parts_bits true false = refl
same_parts_bits false true = refl
same_parts_bits false false = refl

pub same_parts : (store : Families) (id : Id) (var : ℕ) → IsIn store id → var < least_number (family_of store id) → ArePartsOf store (family_of store id) var (record { lo = id; hi = id })
same_parts store id var here greater =
    record {
      lo_in = here;
      hi_in = here;
      lo_greater = greater;
      hi_greater = greater;
      covering = λ set. same_parts_bits (has set var) (covers (family_of store id) set);
      rises = λ set h. h;
    }

-- a node's parts, where it is known to be wide
pub wide_node : (store : Families) (id : Id) (var : ℕ) (node : Node) → Fits store node → family_of store id ≡ family_with store node → least_number (family_of store id) ≡ node.var → node.var ≡ var
    → IsWide (family_of store id) → ArePartsOf store (family_of store id) var (record { lo = node.lo; hi = node.hi })
wide_node store id var node fits is least same wide =
    record {
      lo_in = fits.lo_in;
      hi_in = fits.hi_in;
      lo_greater = subst (λ v. v < least_number (family_of store node.lo)) same fits.lo_greater;
      hi_greater = subst (λ v. v < least_number (family_of store node.hi)) same fits.hi_greater;
      covering = λ set.
          ap (λ f. covers f set) is ∙ covers-branch node.var (family_of store node.lo) (family_of store node.hi) set
          ∙ ap (λ v. joined v (family_of store node.lo) (family_of store node.hi) set) same;
      rises = wide node.var (family_of store node.lo) (family_of store node.hi) is (sym least) fits.lo_greater fits.hi_greater;
    }

-- a node's parts, where what it covers with the variable was joined with what it covers without it
made_wide_bits : (h l r : Bool) → (l || (h && r)) ≡ (l || (h && (l || r)))
made_wide_bits h true r = refl
made_wide_bits h false r = refl

pub made_wide : (before after : Families) (id : Id) (var low : ℕ) (node : Node) (hi : Id) → Fits before node → family_of before id ≡ family_with before node → node.var ≡ var → Keeps before after
    → IsFound after low (IsCovering low (λ set. covers (family_of before node.lo) set || covers (family_of before node.hi) set)) hi → var < low
    → ArePartsOf after (family_of before id) var (record { lo = node.lo; hi = hi })
made_wide before after id var low node hi fits is same kept made greater =
    let lo_is : family_of after node.lo ≡ family_of before node.lo = kept.same node.lo.position fits.lo_in in
    let least : low ≤ least_number (family_of after hi) = made.least in
    record {
      lo_in = found_kept before after node.lo kept fits.lo_in;
      hi_in = made.found;
      lo_greater = subst (λ f. var < least_number f) (sym lo_is) (subst (λ v. v < least_number (family_of before node.lo)) same fits.lo_greater);
      hi_greater = omega arith;
      covering = λ set.
          ap (λ f. covers f set) is ∙ covers-branch node.var (family_of before node.lo) (family_of before node.hi) set
          ∙ ap (λ v. joined v (family_of before node.lo) (family_of before node.hi) set) same
          ∙ made_wide_bits (has set var) (covers (family_of before node.lo) set) (covers (family_of before node.hi) set)
          ∙ ap (λ c. covers (family_of before node.lo) set || (has set var && c)) (sym (made.right.covering set))
          ∙ ap (λ f. covers f set || (has set var && covers (family_of after hi) set)) (sym lo_is);
      rises = λ set h.
          made.right.covering set ∙ or_left (covers (family_of before node.lo) set) (covers (family_of before node.hi) set) (ap (λ f. covers f set) (sym lo_is) ∙ h);
    }

-- parts stay parts
pub parts_kept : (before after : Families) (family : Family) (var : ℕ) (parts : Parts) → Keeps before after → ArePartsOf before family var parts → ArePartsOf after family var parts
parts_kept before after family var parts kept are =
    let lo_is : family_of after parts.lo ≡ family_of before parts.lo = kept.same parts.lo.position are.lo_in in
    let hi_is : family_of after parts.hi ≡ family_of before parts.hi = kept.same parts.hi.position are.hi_in in
    record {
      lo_in = found_kept before after parts.lo kept are.lo_in;
      hi_in = found_kept before after parts.hi kept are.hi_in;
      lo_greater = subst (λ f. var < least_number f) (sym lo_is) are.lo_greater;
      hi_greater = subst (λ f. var < least_number f) (sym hi_is) are.hi_greater;
      covering = λ set. are.covering set ∙ ap (λ f. joined var f (family_of before parts.hi) set) (sym lo_is) ∙ ap (λ f. joined var (family_of after parts.lo) f set) (sym hi_is);
      rises = λ set h. ap (λ f. covers f set) hi_is ∙ are.rises set (ap (λ f. covers f set) (sym lo_is) ∙ h);
    }

pub both_made : (before middle after : Families) (a b : Id) (var : ℕ) (first second : Parts) → Keeps before middle → Keeps middle after → IsIn before b
    → ArePartsOf middle (family_of before a) var first → ArePartsOf after (family_of middle b) var second
    → AreBothParts after (family_of before a) (family_of before b) var (record { first = first; second = second })
both_made before middle after a b var first second k1 k2 b_in of_a of_b =
    record { first = parts_kept middle after (family_of before a) var first k2 of_a; second = subst (λ f. ArePartsOf after f var second) (k1.same b.position b_in) of_b }

-- a branch whose hi covers what lo covers is wide
pub wide-branch : (var : ℕ) (lo hi family : Family) → family ≡ branch var lo hi → var < least_number lo → var < least_number hi → ((set : List ℕ) → IsTrue (covers lo set) → IsTrue (covers hi set)) → IsWide family
unfolding covers
wide-branch var lo [] family is l r rises = λ var' lo' hi' is' at' l' r' set h.
    absurd (false≢true (rises set (ap (λ f. covers f set) (sym (branch-empty var lo) ∙ sym is ∙ is') ∙ covers-branch var' lo' hi' set ∙ or_left (covers lo' set) (has set var' && covers hi' set) h)))
wide-branch var lo (s ∷ ss) family is l r rises = λ var' lo' hi' is' at' l' r' set h. by var' lo' hi' is' at' l' r' set h
  where
    by : (var' : ℕ) (lo' hi' : Family) → family ≡ branch var' lo' hi' → var' ≡ least_number family → var' < least_number lo' → var' < least_number hi' → (set : List ℕ) → IsTrue (covers lo' set) → IsTrue (covers hi' set)
    by var' lo' [] is' at' l' r' set h =
        let same : least_number family ≡ least_number lo' = ap least_number (is' ∙ branch-empty var' lo') in
        absurd (omega arith)
    by var' lo' (t ∷ ts) is' at' l' r' set h =
        let parts = same_branch var var' lo lo' s t ss ts l r l' r' (sym is ∙ is') in
        ap (λ f. covers f set) (sym parts.2) ∙ rises set (ap (λ f. covers f set) parts.1 ∙ h)

-- what is made of two parts
pub wide_same : (store : Families) (lo hi : Id) (var : ℕ) → IsIn store lo → var < least_number (family_of store lo) → lo.position ≡ hi.position
    → Answered store store var (IsCovering var (joined var (family_of store lo) (family_of store hi))) (Ok lo)
wide_same store lo hi var here greater same =
    answered lo here (omega arith)
    (record {
      least = omega arith;
      covering = λ set.
          same_parts_bits (has set var) (covers (family_of store lo) set)
          ∙ ap (λ p. joined var (family_of store lo) (family_at store p) set) same;
    })

pub wide_made : (before after : Families) (lo hi made : Id) (var : ℕ) → Keeps before after → IsIn after made → family_of after made ≡ branch var (family_of before lo) (family_of before hi)
    → var < least_number (family_of before lo) → var < least_number (family_of before hi)
    → Answered before after var (IsCovering var (joined var (family_of before lo) (family_of before hi))) (Ok made)
wide_made before after lo hi made var kept here is l r =
    let bound : var ≤ least_number (branch var (family_of before lo) (family_of before hi)) = le-least_number-branch var var (family_of before lo) (family_of before hi) (omega arith) (omega arith) (omega arith) in
    let same : least_number (family_of after made) ≡ least_number (branch var (family_of before lo) (family_of before hi)) = ap least_number is in
    record {
      kept = kept;
      answer = record {
        found = here;
        least = omega arith;
        right = record { least = omega arith; covering = λ set. ap (λ f. covers f set) is ∙ covers-branch var (family_of before lo) (family_of before hi) set };
      };
    }

-- an operand that covers what the answer should
pub wide_operand : (store : Families) (id : Id) (low : ℕ) (test : List ℕ → Bool) → IsIn store id → low ≤ least_number (family_of store id)
    → ((set : List ℕ) → covers (family_of store id) set ≡ test set) → Answered store store low (IsCovering low test) (Ok id)
wide_operand store id low test here least same = answered id here least (record { least = least; covering = same })

-- the same with the operands in the other order
or_turned : (a b : Bool) → (a || b) ≡ (b || a)
or_turned true true = refl
or_turned true false = refl
or_turned false true = refl
or_turned false false = refl

and_turned : (a b : Bool) → (a && b) ≡ (b && a)
and_turned true true = refl
and_turned true false = refl
and_turned false true = refl
and_turned false false = refl

turned_to : (before after : Families) (low low' : ℕ) (test test' : List ℕ → Bool) (result : Result Id AllocError) → low ≡ low' → ((set : List ℕ) → test set ≡ test' set)
    → Answered before after low (IsCovering low test) result → Answered before after low' (IsCovering low' test') result
turned_to before after low low' test test' (Ok id) e same a =
    let least : low ≤ least_number (family_of after id) = a.answer.least in
    record { kept = a.kept; answer = record { found = a.answer.found; least = omega arith; right = record { least = omega arith; covering = λ set. a.answer.right.covering set ∙ same set } } }
turned_to before after low low' test test' (Err err) e same a = record { kept = a.kept; answer = tt }

pub union_turned : (before after : Families) (a b : Id) (result : Result Id AllocError)
    → Answered before after (min (least_number (family_of before b)) (least_number (family_of before a))) (IsCovering (min (least_number (family_of before b)) (least_number (family_of before a))) (λ set. covers (family_of before b) set || covers (family_of before a) set)) result
    → Answered before after (min (least_number (family_of before a)) (least_number (family_of before b))) (IsCovering (min (least_number (family_of before a)) (least_number (family_of before b))) (λ set. covers (family_of before a) set || covers (family_of before b) set)) result
union_turned before after a b result = turned_to before after _ _ _ _ result (omega arith) (λ set. or_turned (covers (family_of before b) set) (covers (family_of before a) set))

pub meet_turned : (before after : Families) (a b : Id) (result : Result Id AllocError)
    → Answered before after (min (least_number (family_of before b)) (least_number (family_of before a))) (IsCovering (min (least_number (family_of before b)) (least_number (family_of before a))) (λ set. covers (family_of before b) set && covers (family_of before a) set)) result
    → Answered before after (min (least_number (family_of before a)) (least_number (family_of before b))) (IsCovering (min (least_number (family_of before a)) (least_number (family_of before b))) (λ set. covers (family_of before a) set && covers (family_of before b) set)) result
meet_turned before after a b result = turned_to before after _ _ _ _ result (omega arith) (λ set. and_turned (covers (family_of before b) set) (covers (family_of before a) set))

-- an operation on the parts of two families, with and without the variable
module _ (op : Bool → Bool → Bool) (bits : (h la lb ha hb : Bool) → (la ≡ true → ha ≡ true) → (lb ≡ true → hb ≡ true) → (op la lb || (h && op ha hb)) ≡ op (la || (h && ha)) (lb || (h && hb)))
    (grows : (la lb ha hb : Bool) → (la ≡ true → ha ≡ true) → (lb ≡ true → hb ≡ true) → op la lb ≡ true → op ha hb ≡ true)
    (s1 s2 s3 : Families) (a b : Family) (parts : BothParts) (lo hi : Id) (var l1 l2 : ℕ) (are : AreBothParts s1 a b var parts) (k2 : Keeps s1 s2) (k3 : Keeps s2 s3)
    (f1 : IsFound s2 l1 (IsCovering l1 (λ set. op (covers (family_of s1 parts.first.lo) set) (covers (family_of s1 parts.second.lo) set))) lo)
    (f2 : IsFound s3 l2 (IsCovering l2 (λ set. op (covers (family_of s2 parts.first.hi) set) (covers (family_of s2 parts.second.hi) set))) hi) where
  lo_is : (set : List ℕ) → covers (family_of s3 lo) set ≡ op (covers (family_of s1 parts.first.lo) set) (covers (family_of s1 parts.second.lo) set)
  lo_is set = ap (λ f. covers f set) (k3.same lo.position f1.found) ∙ f1.right.covering set

  hi_is : (set : List ℕ) → covers (family_of s3 hi) set ≡ op (covers (family_of s1 parts.first.hi) set) (covers (family_of s1 parts.second.hi) set)
  hi_is set =
      f2.right.covering set ∙ ap (λ f. op (covers f set) (covers (family_of s2 parts.second.hi) set)) (k2.same parts.first.hi.position are.first.hi_in)
      ∙ ap (λ f. op (covers (family_of s1 parts.first.hi) set) (covers f set)) (k2.same parts.second.hi.position are.second.hi_in)

  pub parts_rise : (set : List ℕ) → IsTrue (covers (family_of s3 lo) set) → IsTrue (covers (family_of s3 hi) set)
  parts_rise set h =
      hi_is set ∙ grows (covers (family_of s1 parts.first.lo) set) (covers (family_of s1 parts.second.lo) set) (covers (family_of s1 parts.first.hi) set) (covers (family_of s1 parts.second.hi) set)
      (are.first.rises set) (are.second.rises set) (sym (lo_is set) ∙ h)

  pub parts_joined : (after : Families) (answer : Id) (l3 : ℕ) → IsFound after l3 (IsCovering l3 (joined var (family_of s3 lo) (family_of s3 hi))) answer
      → (set : List ℕ) → covers (family_of after answer) set ≡ op (covers a set) (covers b set)
  parts_joined after answer l3 f3 set =
      f3.right.covering set
      ∙ ap (λ c. c || (has set var && covers (family_of s3 hi) set)) (lo_is set)
      ∙ ap (λ c. op (covers (family_of s1 parts.first.lo) set) (covers (family_of s1 parts.second.lo) set) || (has set var && c)) (hi_is set)
      ∙ bits (has set var) (covers (family_of s1 parts.first.lo) set) (covers (family_of s1 parts.second.lo) set) (covers (family_of s1 parts.first.hi) set) (covers (family_of s1 parts.second.hi) set)
      (are.first.rises set) (are.second.rises set)
      ∙ sym (ap (λ c. op c (covers b set)) (are.first.covering set) ∙ ap (λ c. op (joined var (family_of s1 parts.first.lo) (family_of s1 parts.first.hi) set) c) (are.second.covering set))

pub union_bits : (h la lb ha hb : Bool) → (la ≡ true → ha ≡ true) → (lb ≡ true → hb ≡ true) → ((la || lb) || (h && (ha || hb))) ≡ ((la || (h && ha)) || (lb || (h && hb)))
union_bits true true lb ha hb f g = refl
union_bits true false true true hb f g = refl
union_bits true false true false hb f g = refl
union_bits true false false ha hb f g = refl
union_bits false true lb ha hb f g = refl
union_bits false false true ha hb f g = refl
union_bits false false false ha hb f g = refl

pub union_grows : (la lb ha hb : Bool) → (la ≡ true → ha ≡ true) → (lb ≡ true → hb ≡ true) → la || lb ≡ true → ha || hb ≡ true
union_grows true lb ha hb f g e = or_left ha hb (f refl)
union_grows false true ha hb f g e = or_right ha hb (g refl)
union_grows false false ha hb f g e = absurd (false≢true e)

pub meet_bits : (h la lb ha hb : Bool) → (la ≡ true → ha ≡ true) → (lb ≡ true → hb ≡ true) → ((la && lb) || (h && (ha && hb))) ≡ ((la || (h && ha)) && (lb || (h && hb)))
meet_bits true true true ha hb f g = refl
meet_bits true true false true hb f g = refl
meet_bits true true false false hb f g = absurd (false≢true (f refl))
meet_bits true false true ha true f g = refl
meet_bits true false true ha false f g = absurd (false≢true (g refl))
meet_bits true false false ha hb f g = refl
meet_bits false true true ha hb f g = refl
meet_bits false true false ha hb f g = refl
meet_bits false false lb ha hb f g = refl

pub meet_grows : (la lb ha hb : Bool) → (la ≡ true → ha ≡ true) → (lb ≡ true → hb ≡ true) → la && lb ≡ true → ha && hb ≡ true
meet_grows true true ha hb f g e = ap (λ x. x && hb) (f refl) ∙ g refl
meet_grows true false ha hb f g e = absurd (false≢true e)
meet_grows false lb ha hb f g e = absurd (false≢true e)

-- what is left of a branch without the sets that contain one of a family, from its parts
pub without-parts : (store : Families) (var : ℕ) (lo hi other : Family) (parts : Parts) → var < least_number lo → var < least_number hi → ArePartsOf store other var parts
    → sets_without (branch var lo hi) other ≡ branch var (sets_without lo (family_of store parts.lo)) (sets_without hi (family_of store parts.hi))
unfolding sets_without
without-parts store var lo hi other parts l r are =
    filter-branch (λ set. not (covers other set)) var lo hi
    ∙ ap (λ f. branch var f (filter (λ set. not (covers other (var ∷ set))) hi)) (same_filter _ (λ set. not (covers (family_of store parts.lo) set)) lo in_lo)
    ∙ ap (branch var (filter (λ set. not (covers (family_of store parts.lo) set)) lo)) (same_filter _ (λ set. not (covers (family_of store parts.hi) set)) hi in_hi)
  where
    none : (b : Bool) → (b || false) ≡ b
    none true = refl
    none false = refl

    more : (a b : Bool) → (a ≡ true → b ≡ true) → (a || b) ≡ b
    more true b f = sym (f refl)
    more false b f = refl

    in_lo : (set : List ℕ) → Contains lo set → not (covers other set) ≡ not (covers (family_of store parts.lo) set)
    in_lo set here =
        ap not (are.covering set ∙ ap (λ b. covers (family_of store parts.lo) set || (b && covers (family_of store parts.hi) set)) (member-greater lo set var here l) ∙ none (covers (family_of store parts.lo) set))

    in_hi : (set : List ℕ) → Contains hi set → not (covers other (var ∷ set)) ≡ not (covers (family_of store parts.hi) set)
    in_hi set here =
        ap not (are.covering (var ∷ set) ∙ ap (λ b. covers (family_of store parts.lo) (var ∷ set) || (b && covers (family_of store parts.hi) (var ∷ set))) (has_first var set)
        ∙ more (covers (family_of store parts.lo) (var ∷ set)) (covers (family_of store parts.hi) (var ∷ set)) (are.rises (var ∷ set))
        ∙ covers-with (family_of store parts.hi) set var are.hi_greater)

-- the branch of what the two calls answered
pub without_wide_made : (before s1 s2 s3 after : Families) (a b lo hi answer : Id) (first parts : Parts) (var l2 l3 : ℕ)
    → IsSplit before a var first → Keeps before s1 → ArePartsOf s1 (family_of before b) var parts
    → Keeps s1 s2 → Keeps s2 s3
    → IsFound s2 l2 (λ f. f ≡ sets_without (family_of s1 first.lo) (family_of s1 parts.lo)) lo
    → IsFound s3 l3 (λ f. f ≡ sets_without (family_of s2 first.hi) (family_of s2 parts.hi)) hi
    → family_of after answer ≡ branch var (family_of s3 lo) (family_of s3 hi)
    → family_of after answer ≡ sets_without (family_of before a) (family_of before b)
without_wide_made before s1 s2 s3 after a b lo hi answer first parts var l2 l3 split k1 are k2 k3 f2 f3 made =
    let lo_s : family_of s3 lo ≡ sets_without (family_of before first.lo) (family_of s1 parts.lo) =
    k3.same lo.position f2.found ∙ f2.right ∙ ap (λ f. sets_without f (family_of s1 parts.lo)) (k1.same first.lo.position split.lo_in) in
    let hi_s : family_of s3 hi ≡ sets_without (family_of before first.hi) (family_of s1 parts.hi) =
    f3.right ∙ ap (λ f. sets_without f (family_of s2 parts.hi)) ((Keeps_trans before s1 s2 k1 k2).same first.hi.position split.hi_in) ∙ ap (sets_without (family_of before first.hi)) (k2.same parts.hi.position are.hi_in) in
    made ∙ ap (λ f. branch var f (family_of s3 hi)) lo_s ∙ ap (branch var (sets_without (family_of before first.lo) (family_of s1 parts.lo))) hi_s
    ∙ sym (without-parts s1 var (family_of before first.lo) (family_of before first.hi) (family_of before b) parts split.lo_greater split.hi_greater are)
    ∙ ap (λ f. sets_without f (family_of before b)) (sym split.family)

-- families that cover the same leave the same
pub without-same_covers : (a b other : Family) → ((set : List ℕ) → covers b set ≡ covers other set) → sets_without a b ≡ sets_without a other
unfolding sets_without
without-same_covers a b other same = same_filter (λ set. not (covers b set)) (λ set. not (covers other set)) a (λ set here. ap not (same set))
