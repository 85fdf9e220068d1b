-- Keys that rise give the order of the steps.
use Rattle.std.proofs.Common.{ℕ, suc, ◌+◌, ◌*◌, ◌^◌, ◌%◌, ◌≡◌, ◌<◌, ◌⊎◌, ◌==◌, ◌&&◌, ◌||◌, Bool, true, false, cond, nat_lt, List, [], ◌∷◌, ◌++◌, length, map, set, slice_index_or, AllPairs, ap, ◌∙◌, sym, subst, arith, ⊎_elim, inl, inr, append-nil, le-leb, leb-true, eq-eqb, eqb-true}
use Rattle.std.specs.List.Sorted.{IsStrictlyIncreasing}
use Rattle.std.proofs.lemmas.Bool.{false≢true, and_from, and_parts, or_cases, or_left, or_right, cases_order}
use Rattle.std.proofs.lemmas.Nat.{mod-mul-add}
use Rattle.std.proofs.lemmas.List.{get_or-map, length-map, get_or-set_same, get_or-set_other}
use Rattle.std.proofs.lemmas.List.Folds.{list_any-append}
use Rattle.std.proofs.lemmas.List.Kept.{AllPairs-from_increasing}
use Rattle.fault_system.specs.Truth.{Has, member, set_of}
use Rattle.fault_system.specs.Rounds.{time_of}
use Rattle.fault_system.proofs.NumberSets.{member-in}
use Rattle.derivations.specs.Derived.{comes_before}
use Rattle.derivations.specs.inner.Ordered.{AreKeys, IsOrder, key_of, place_at}
use Rattle.derivations.proofs.NumbersIn.{at-found, set_of-map_from, set_of-mapped}

pub keys-none : (rounds : List ℕ) (marks : List Bool) → AreKeys rounds marks 0 []
keys-none rounds marks = record { each = λ key h. absurd (false≢true h); all = λ fact h has. absurd (omega arith) }

below-next : (n bound : ℕ) → n < bound + 1 → (n < bound) ⊎ (bound ≡ n)
below-next n bound h = ⊎_elim (λ e. inr (sym e)) (λ o. ⊎_elim (λ l. inl l) (λ g. absurd (omega arith)) o) (cases_order n bound)

pushed-cases : (xs : List ℕ) (x n : ℕ) → Has (set_of (xs ++ x ∷ [])) n → Has (set_of xs) n ⊎ (x ≡ n)
pushed-cases xs x n h = ⊎_elim (λ was. inl was)
    (λ new. ⊎_elim (λ same. inr (eqb-true x n same)) (λ no_more. absurd (false≢true no_more)) (or_cases (x == n) false new))
    (or_cases (set_of xs n) ((x == n) || false) (sym (list_any-append (λ m. m == n) xs (x ∷ [])) ∙ h))

pushed-front : (xs : List ℕ) (x n : ℕ) → Has (set_of xs) n → Has (set_of (xs ++ x ∷ [])) n
pushed-front xs x n h = list_any-append (λ m. m == n) xs (x ∷ []) ∙ or_left (set_of xs n) ((x == n) || false) h

pushed-back : (xs : List ℕ) (x n : ℕ) → x ≡ n → Has (set_of (xs ++ x ∷ [])) n
pushed-back xs x n e = list_any-append (λ m. m == n) xs (x ∷ []) ∙ or_right (set_of xs n) ((x == n) || false) (or_left (x == n) false (eq-eqb x n e))

pub keys-next : (rounds : List ℕ) (marks : List Bool) (bound : ℕ) (keys : List ℕ) (there : Bool) → there ≡ member marks bound → AreKeys rounds marks bound keys → AreKeys rounds marks (bound + 1) (keys ++ cond there (key_of rounds bound ∷ []) [])
keys-next rounds marks bound keys true e is =
    record {
      each = λ key h. ⊎_elim
          (λ was. let it = is.each key was in (it.0, omega (arith, it.1), it.2, it.3))
          (λ same. (bound, omega arith, sym e, sym same))
          (pushed-cases keys (key_of rounds bound) key h);
      all = λ fact h has. ⊎_elim
          (λ l. pushed-front keys (key_of rounds bound) (key_of rounds fact) (is.all fact l has))
          (λ same. pushed-back keys (key_of rounds bound) (key_of rounds fact) (ap (key_of rounds) same))
          (below-next fact bound h);
    }
keys-next rounds marks bound keys false e is =
    subst (AreKeys rounds marks (bound + 1)) (sym (append-nil keys)) (record {
      each = λ key h. let it = is.each key h in (it.0, omega (arith, it.1), it.2, it.3);
      all = λ fact h has. ⊎_elim (λ l. is.all fact l has) (λ same. absurd (false≢true (e ∙ ap (member marks) same ∙ has))) (below-next fact bound h);
    })

pub keys-same : (rounds : List ℕ) (marks : List Bool) (bound : ℕ) (keys sorted : List ℕ) → ((n : ℕ) → set_of sorted n ≡ set_of keys n) → AreKeys rounds marks bound keys → AreKeys rounds marks bound sorted
keys-same rounds marks bound keys sorted same is =
    record {
      each = λ key h. is.each key (sym (same key) ∙ h);
      all = λ fact h has. same (key_of rounds fact) ∙ is.all fact h has;
    }

-- the fact of a key
abbrev pub fact_in : ℕ → ℕ
fact_in key = key % 2 ^ 32

fact-in : (rounds : List ℕ) (fact : ℕ) → fact < 2 ^ 32 → fact_in (key_of rounds fact) ≡ fact
fact-in rounds fact few = mod-mul-add (time_of rounds fact) (2 ^ 32) fact few

key-less : (ra a rb b : ℕ) → a < 2 ^ 32 → b < 2 ^ 32 → ra * 2 ^ 32 + a < rb * 2 ^ 32 + b → nat_lt ra rb || ((ra == rb) && nat_lt a b) ≡ true
key-less ra a rb b few_a few_b less = ⊎_elim
    (λ same. let below : a < b = omega arith in or_right (nat_lt ra rb) _ (and_from (ra == rb) (nat_lt a b) (eq-eqb ra rb same) (le-leb (suc a) b below)))
    (λ differ. ⊎_elim
    (λ l. or_left (nat_lt ra rb) _ (le-leb (suc ra) rb l))
    (λ g. absurd (omega arith))
    differ)
    (cases_order ra rb)

module _ (rounds : List ℕ) (marks : List Bool) (keys : List ℕ) (few : length marks < 2 ^ 32) (rising : IsStrictlyIncreasing keys) (are : AreKeys rounds marks (length marks) keys) where
  key-at : (i : ℕ) → i < length keys → (fact : ℕ) × (fact < 2 ^ 32) × (place_at keys i ≡ key_of rounds fact)
  key-at i h = let it = are.each (place_at keys i) (at-found keys i h) in (it.0, omega (arith, it.1), it.3)

  fact-at : (i d fact : ℕ) → i < length keys → fact < 2 ^ 32 → place_at keys i ≡ key_of rounds fact → slice_index_or (map fact_in keys) i d ≡ fact
  fact-at i d fact h fits e = get_or-map fact_in keys i 0 d h ∙ ap fact_in e ∙ fact-in rounds fact fits

  in-order : AllPairs (λ f g. comes_before rounds f g ≡ true) (map fact_in keys)
  in-order i j d less fits =
      let long : length (map fact_in keys) ≡ length keys = length-map keys fact_in in
      let within_j : j < length keys = omega (arith, long) in
      let within_i : i < length keys = omega arith in
      let first = key-at i within_i in
      let second = key-at j within_j in
      let rises : place_at keys i < place_at keys j = AllPairs-from_increasing keys rising i j 0 less within_j in
      let keys_rise : key_of rounds first.0 < key_of rounds second.0 = subst (λ k. k < key_of rounds second.0) first.2 (subst (λ k. place_at keys i < k) second.2 rises) in
      let same_i = fact-at i d first.0 within_i first.1 first.2 in
      let same_j = fact-at j d second.0 within_j second.1 second.2 in
      subst (λ f. comes_before rounds f (slice_index_or (map fact_in keys) j d) ≡ true) (sym same_i)
      (subst (λ g. comes_before rounds first.0 g ≡ true) (sym same_j)
      (key-less (time_of rounds first.0) first.0 (time_of rounds second.0) second.0 first.1 second.1 keys_rise))

  pub keys-order : IsOrder rounds marks (map fact_in keys)
  keys-order = record {
    into = λ fact h.
        let key = set_of-map_from fact_in keys fact h in
        let it = are.each key.0 key.1 in
        let same : it.0 ≡ fact = sym (fact-in rounds it.0 (omega (arith, it.1))) ∙ ap fact_in (sym it.3) ∙ key.2 in
        subst (Has (member marks)) same it.2;
    all = λ fact has.
        let fits = member-in marks fact has in
        let there = set_of-mapped fact_in keys (key_of rounds fact) (are.all fact fits has) in
        subst (Has (set_of (map fact_in keys))) (fact-in rounds fact (omega (arith, fits))) there;
    ordered = in-order;
  }

-- parts of the order
pub comes-parts : (rounds : List ℕ) (f g : ℕ) → comes_before rounds f g ≡ true → (time_of rounds f < time_of rounds g) ⊎ ((time_of rounds f ≡ time_of rounds g) × (f < g))
comes-parts rounds f g e = ⊎_elim
    (λ l. inl (leb-true (suc (time_of rounds f)) (time_of rounds g) l))
    (λ both. let parts = and_parts (time_of rounds f == time_of rounds g) (nat_lt f g) both in inr (eqb-true _ _ parts.0, leb-true (suc f) g parts.1))
    (or_cases _ _ e)

-- no fact comes before itself
pub order-differs : (rounds : List ℕ) (marks : List Bool) (order : List ℕ) → IsOrder rounds marks order → (m n : ℕ) → m < n → n < length order → place_at order m ≡ place_at order n → ⊥
order-differs rounds marks order is m n less fits same =
    let before : comes_before rounds (place_at order m) (place_at order n) ≡ true = is.ordered m n 0 less fits in
    let itself : comes_before rounds (place_at order n) (place_at order n) ≡ true = subst (λ k. comes_before rounds k (place_at order n) ≡ true) same before in
    ⊎_elim (λ l. omega arith) (λ both. omega (arith, both.1)) (comes-parts rounds (place_at order n) (place_at order n) itself)

-- the places of the first facts of an order
pub record ArePlacesTo (order places : List ℕ) (count : ℕ) : Type 0 where
  pub each : (n : ℕ) → n < count → place_at places (place_at order n) ≡ n

pub places-next : (order places : List ℕ) (count fact : ℕ) → fact ≡ place_at order count → count < length order → fact < length places → ((m n : ℕ) → m < n → n < length order → place_at order m ≡ place_at order n → ⊥) → ArePlacesTo order places count → ArePlacesTo order (set places fact count) (count + 1)
places-next order places count fact is fits within differ so_far =
    record {
      each = λ n h. ⊎_elim
          (λ l. get_or-set_other places fact (place_at order n) count 0 (λ e. differ n count l fits (e ∙ is)) ∙ so_far.each n l)
          (λ same. subst (λ k. place_at (set places fact count) (place_at order k) ≡ k) same
          (subst (λ f. place_at (set places fact count) f ≡ count) is (get_or-set_same places fact count 0 within)))
          (below-next n count h);
    }

-- each fact of an order is one of the marks
pub order-within : (rounds : List ℕ) (marks : List Bool) (order : List ℕ) → IsOrder rounds marks order → (n : ℕ) → n < length order → place_at order n < length marks
order-within rounds marks order is n fits = member-in marks (place_at order n) (is.into (place_at order n) (at-found order n fits))
