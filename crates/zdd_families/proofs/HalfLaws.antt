-- The product of two families from what of each contains a set of the other.
use Rattle.std.proofs.Common.{◌≡◌, ℕ, ◌≤◌, min, Bool, true, false, not, ◌&&◌, ◌||◌, List, Contains, Result, Ok, Err, refl, sym, ap, ◌∙◌, subst, arith}
use Rattle.std.specs.declared.alloc.AllocError.{AllocError}
use Rattle.std.proofs.lemmas.Bool.{false≢true}
use Rattle.zdd_store.specs.inner.Family.{Family, least_number, is_within, covers, sets_without, IsAntichain}
use Rattle.zdd_store.specs.inner.Store.{Families, IsIn, family_of, Keeps}
use Rattle.zdd_store.specs.inner.Answers.{IsLeastFamily, IsAsked, IsLeastUpTo, IsProductUpTo}
use Rattle.zdd_store.specs.declared.id.Id.{Id}
use Rattle.zdd_families.specs.inner.Steps.{IsFound, Answered, IsHalved, AreHalves, least_of_halves, of_halves, either, both}
use Rattle.zdd_families.specs.declared.halving.Halves.{Halves}
use Rattle.zdd_families.proofs.Booleans.{or_left, or_right, same_test}
use Rattle.zdd_families.proofs.Subsets.{within_self}
use Rattle.zdd_families.proofs.Covers.{covers_member, member_covers, covers_more}
use Rattle.zdd_families.proofs.Joins.{member_filter, filter_member}
use Rattle.zdd_families.proofs.Ways.{Keeps_trans, least-without}
use Rattle.zdd_families.proofs.Pairs.{apart_kept, found_kept, least_kept}

-- what is left of a family covers no more than the family
less : (a b : Family) (set : List ℕ) → covers (sets_without a b) set ≡ true → covers a set ≡ true
unfolding sets_without
less a b set h = let c = member_covers (sets_without a b) set h in covers_member a c.part set (member_filter (λ s. not (covers b s)) a c.part c.member).0 c.within

-- a set of a family that another one does not cover is left
left : (a b : Family) (part : List ℕ) → Contains a part → covers b part ≡ false → Contains (sets_without a b) part
unfolding sets_without
left a b part here none = filter_member (λ s. not (covers b s)) a part here (ap not none)

-- what is left is not covered
apart_from : (a b : Family) (part : List ℕ) → Contains (sets_without a b) part → covers b part ≡ true → ⊥
unfolding sets_without
apart_from a b part here h = false≢true (ap not (sym h) ∙ (member_filter (λ s. not (covers b s)) a part here).1)

-- a set of a family that is not left contains a set of the other
pub inner-covered : (a b : Family) (set : List ℕ) → covers (sets_without a (sets_without a b)) set ≡ true → covers b set ≡ true
unfolding sets_without
inner-covered a b set h =
    let c = member_covers (sets_without a (sets_without a b)) set h in by c.part c.member c.within (covers b c.part) refl
  where
    by : (part : List ℕ) → Contains (sets_without a (sets_without a b)) part → is_within part set ≡ true → (t : Bool) → covers b part ≡ t → covers b set ≡ true
    by part here within true e = covers_more b part set within e
    by part here within false e =
        let own : Contains a part = (member_filter (λ s. not (covers (sets_without a b) s)) a part here).0 in
        absurd (apart_from a (sets_without a b) part here (covers_member (sets_without a b) part part (left a b part own e) (within_self part)))

-- the two halves cover what the family covers
pub halves-cover : (a outer : Family) (set : List ℕ) → (covers outer set ≡ true → covers a set ≡ true) → covers a set ≡ either (sets_without a outer) outer set
halves-cover a outer set own = same_test (covers a set) (either (sets_without a outer) outer set) there back
  where
    there : covers a set ≡ true → either (sets_without a outer) outer set ≡ true
    there h = let c = member_covers a set h in by c.part c.member c.within (covers outer c.part) refl
      where
        by : (part : List ℕ) → Contains a part → is_within part set ≡ true → (t : Bool) → covers outer part ≡ t → either (sets_without a outer) outer set ≡ true
        by part here within true e = or_right (covers (sets_without a outer) set) (covers outer set) (covers_more outer part set within e)
        by part here within false e = or_left (covers (sets_without a outer) set) (covers outer set) (covers_member (sets_without a outer) part set (left a outer part here e) within)

    back : either (sets_without a outer) outer set ≡ true → covers a set ≡ true
    back h = by (covers (sets_without a outer) set) refl h
      where
        by : (t : Bool) → covers (sets_without a outer) set ≡ t → (t || covers outer set) ≡ true → covers a set ≡ true
        by true e k = less a outer set e
        by false e k = own k

apart_less : (a b : Family) → IsAntichain a → IsAntichain (sets_without a b)
unfolding sets_without
apart_less a b apart part whole here there h = apart part whole (member_filter (λ s. not (covers b s)) a part here).0 (member_filter (λ s. not (covers b s)) a whole there).0 h

-- the halves of a family, from what the two calls answered
pub halves_made : (before s1 after : Families) (a b outer inner : Id) (l1 l2 : ℕ) → IsIn before a → IsAntichain (family_of before a) → Keeps before s1 → Keeps s1 after
    → IsFound s1 l1 (λ f. f ≡ sets_without (family_of before a) (family_of before b)) outer
    → IsFound after l2 (λ f. f ≡ sets_without (family_of s1 a) (family_of s1 outer)) inner
    → IsHalved after (family_of before a) (family_of before b) (record { inner = inner; outer = outer })
halves_made before s1 after a b outer inner l1 l2 a_in apart k1 k2 f1 f2 =
    let outer_is : family_of after outer ≡ sets_without (family_of before a) (family_of before b) = k2.same outer.position f1.found ∙ f1.right in
    let inner_is : family_of after inner ≡ sets_without (family_of before a) (sets_without (family_of before a) (family_of before b)) =
    f2.right ∙ ap (λ f. sets_without f (family_of s1 outer)) (k1.same a.position a_in) ∙ ap (sets_without (family_of before a)) f1.right in
    record {
      inner_in = f2.found;
      outer_in = found_kept s1 after outer k2 f1.found;
      inner_least = subst (λ f. least_number (family_of before a) ≤ least_number f) (sym inner_is) (least-without (family_of before a) (sets_without (family_of before a) (family_of before b)));
      outer_least = subst (λ f. least_number (family_of before a) ≤ least_number f) (sym outer_is) (least-without (family_of before a) (family_of before b));
      inner_apart = subst IsAntichain (sym inner_is) (apart_less (family_of before a) (sets_without (family_of before a) (family_of before b)) apart);
      outer_apart = subst IsAntichain (sym outer_is) (apart_less (family_of before a) (family_of before b) apart);
      inner = λ set h. inner-covered (family_of before a) (family_of before b) set (ap (λ f. covers f set) (sym inner_is) ∙ h);
      whole = λ set.
          halves-cover (family_of before a) (sets_without (family_of before a) (family_of before b)) set (less (family_of before a) (family_of before b) set)
          ∙ (λ i. covers (sym inner_is i) set || covers (sym outer_is i) set);
    }

-- halves stay halves
pub halves_kept : (before after : Families) (a b : Family) (halves : Halves) → Keeps before after → IsHalved before a b halves → AreHalves after halves
halves_kept before after a b halves kept h =
    record {
      inner_in = found_kept before after halves.inner kept h.inner_in;
      outer_in = found_kept before after halves.outer kept h.outer_in;
      inner_apart = apart_kept before after halves.inner kept h.inner_in h.inner_apart;
      outer_apart = apart_kept before after halves.outer kept h.outer_in h.outer_apart;
    }

-- the product, from the unions and the product of the halves
pub of_halves_made : (before s1 s2 s3 after : Families) (first second : Halves) (inner outer answer : Id) (most l1 l2 l3 : ℕ) (result : Result Id AllocError)
    → AreHalves before first → AreHalves before second → Keeps before s1 → Keeps s1 s2 → Keeps s2 s3
    → IsFound s1 (min (least_number (family_of before first.inner)) (least_number (family_of before second.inner))) (IsLeastFamily (either (family_of before first.inner) (family_of before second.inner))) inner
    → IsFound s2 l2 (IsProductUpTo most (family_of s1 first.outer) (family_of s1 second.outer)) outer
    → IsFound s3 (min (least_number (family_of s2 inner)) (least_number (family_of s2 outer))) (IsLeastFamily (either (family_of s2 inner) (family_of s2 outer))) answer
    → Answered s3 after (least_number (family_of s3 answer)) (IsLeastUpTo most (covers (family_of s3 answer))) result
    → Answered before after (min (least_of_halves before first) (least_of_halves before second)) (IsLeastUpTo most (of_halves before first second)) result
of_halves_made before s1 s2 s3 after first second inner outer answer most l1 l2 l3 (Ok id) one two k1 k2 k3 f1 f2 f3 u =
    let first_kept : least_number (family_of s1 first.outer) ≡ least_number (family_of before first.outer) = least_kept before s1 first.outer k1 one.outer_in in
    let second_kept : least_number (family_of s1 second.outer) ≡ least_number (family_of before second.outer) = least_kept before s1 second.outer k1 two.outer_in in
    let inner_kept : least_number (family_of s2 inner) ≡ least_number (family_of s1 inner) = least_kept s1 s2 inner k2 f1.found in
    record {
      kept = Keeps_trans before s3 after (Keeps_trans before s2 s3 (Keeps_trans before s1 s2 k1 k2) k3) u.kept;
      answer = record {
        found = u.answer.found;
        least = omega (arith, u.answer.least, f3.least, f1.least, f2.right.least);
        right = record { covering = λ set asked. u.answer.right.covering set asked ∙ f3.right.covering set ∙ same set asked; apart = u.answer.right.apart };
      };
    }
  where
    same : (set : List ℕ) → IsAsked most set → either (family_of s2 inner) (family_of s2 outer) set ≡ of_halves before first second set
    same set asked =
        let inner_is : covers (family_of s2 inner) set ≡ either (family_of before first.inner) (family_of before second.inner) set = ap (λ f. covers f set) (k2.same inner.position f1.found) ∙ f1.right.covering set in
        let fo : covers (family_of s1 first.outer) set ≡ covers (family_of before first.outer) set = ap (λ f. covers f set) (k1.same first.outer.position one.outer_in) in
        let so : covers (family_of s1 second.outer) set ≡ covers (family_of before second.outer) set = ap (λ f. covers f set) (k1.same second.outer.position two.outer_in) in
        let outer_is : covers (family_of s2 outer) set ≡ both (family_of before first.outer) (family_of before second.outer) set = f2.right.right.covering set asked ∙ (λ i. fo i && so i) in
        λ i. inner_is i || outer_is i
of_halves_made before s1 s2 s3 after first second inner outer answer most l1 l2 l3 (Err e) one two k1 k2 k3 f1 f2 f3 u =
    record { kept = Keeps_trans before s3 after (Keeps_trans before s2 s3 (Keeps_trans before s1 s2 k1 k2) k3) u.kept; answer = tt }

halved_bits : (a b ia oa ib ob : Bool) → (ia ≡ true → b ≡ true) → (ib ≡ true → a ≡ true) → a ≡ (ia || oa) → b ≡ (ib || ob) → ((ia || ib) || (oa && ob)) ≡ (a && b)
halved_bits a b true oa ib ob f g p q = λ i. sym p i && sym (f refl) i
halved_bits a b false oa true ob f g p q = λ i. sym (g refl) i && sym q i
halved_bits a b false oa false ob f g p q = λ i. sym p i && sym q i

-- the product of two families, from that of their halves
pub halves_answered : (before s1 s2 after : Families) (a b : Id) (first second : Halves) (most : ℕ) (result : Result Id AllocError)
    → IsIn before a → IsIn before b → Keeps before s1 → Keeps s1 s2
    → IsHalved s1 (family_of before a) (family_of before b) first → IsHalved s2 (family_of s1 b) (family_of s1 a) second
    → Answered s2 after (min (least_of_halves s2 first) (least_of_halves s2 second)) (IsLeastUpTo most (of_halves s2 first second)) result
    → Answered before after (min (least_number (family_of before a)) (least_number (family_of before b))) (IsProductUpTo most (family_of before a) (family_of before b)) result
halves_answered before s1 s2 after a b first second most (Ok id) a_in b_in k1 k2 h1 h2 u =
    let b_least : least_number (family_of s1 b) ≡ least_number (family_of before b) = least_kept before s1 b k1 b_in in
    let inner_least : least_number (family_of s2 first.inner) ≡ least_number (family_of s1 first.inner) = least_kept s1 s2 first.inner k2 h1.inner_in in
    let outer_least : least_number (family_of s2 first.outer) ≡ least_number (family_of s1 first.outer) = least_kept s1 s2 first.outer k2 h1.outer_in in
    let bound : min (least_number (family_of before a)) (least_number (family_of before b)) ≤ least_number (family_of after id) =
    omega (arith, u.answer.least, h1.inner_least, h1.outer_least, h2.inner_least, h2.outer_least) in
    record {
      kept = Keeps_trans before s2 after (Keeps_trans before s1 s2 k1 k2) u.kept;
      answer = record {
        found = u.answer.found;
        least = bound;
        right = record { least = bound; right = record { covering = λ set asked. u.answer.right.covering set asked ∙ same set; apart = u.answer.right.apart } };
      };
    }
  where
    same : (set : List ℕ) → of_halves s2 first second set ≡ both (family_of before a) (family_of before b) set
    same set =
        let a_is : covers (family_of s1 a) set ≡ covers (family_of before a) set = ap (λ f. covers f set) (k1.same a.position a_in) in
        let b_is : covers (family_of s1 b) set ≡ covers (family_of before b) set = ap (λ f. covers f set) (k1.same b.position b_in) in
        let fi : covers (family_of s2 first.inner) set ≡ covers (family_of s1 first.inner) set = ap (λ f. covers f set) (k2.same first.inner.position h1.inner_in) in
        let fo : covers (family_of s2 first.outer) set ≡ covers (family_of s1 first.outer) set = ap (λ f. covers f set) (k2.same first.outer.position h1.outer_in) in
        halved_bits (covers (family_of before a) set) (covers (family_of before b) set)
        (covers (family_of s2 first.inner) set) (covers (family_of s2 first.outer) set) (covers (family_of s2 second.inner) set) (covers (family_of s2 second.outer) set)
        (λ e. h1.inner set (sym fi ∙ e)) (λ e. sym a_is ∙ h2.inner set e)
        (h1.whole set ∙ (λ i. sym fi i || sym fo i)) (sym b_is ∙ h2.whole set)
halves_answered before s1 s2 after a b first second most (Err e) a_in b_in k1 k2 h1 h2 u =
    record { kept = Keeps_trans before s2 after (Keeps_trans before s1 s2 k1 k2) u.kept; answer = tt }
