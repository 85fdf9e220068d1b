-- Rising lists of the numbers at which a test is true.
use Rattle.std.proofs.Common.{ℕ, ◌+◌, ◌≡◌, ◌<◌, ◌⊎◌, ◌↔◌, Bool, true, false, not, ◌&&◌, cond, List, [], ◌∷◌, ◌++◌, inl, inr, ⊎_elim, ap, ◌∙◌, sym, subst, append-nil, arith, refl}
use Rattle.std.proofs.lemmas.Bool.{false≢true, cases_order, and_parts, and_from}
use Rattle.fault_system.specs.Truth.{NumberSet}
use Rattle.plain_values.specs.Rising.{RisesWithin}
use Rattle.plain_values.proofs.Rising.{rises-higher, rises-push}
use Rattle.fault_system.proofs.Elements.{In, In-contains, contains_In, In-append, In-front, In-back}
use Rattle.system_review.specs.Listed.{AreAll}

-- the numbers below a bound at which a test is true
pub record Listed (test : NumberSet) (bound : ℕ) (list : List ℕ) : Type 0 where
  pub so : (n : ℕ) → In n list → (n < bound) × (test n ≡ true)
  pub all : (n : ℕ) → n < bound → test n ≡ true → In n list
  pub rise : RisesWithin 0 bound list

pub next_or_below : (n bound : ℕ) → n < bound + 1 → (n < bound) ⊎ (bound ≡ n)
next_or_below n bound h = ⊎_elim (λ e. inr (sym e)) (λ o. ⊎_elim (λ l. inl l) (λ g. absurd (omega arith)) o) (cases_order n bound)

pub listed-none : (test : NumberSet) → Listed test 0 []
listed-none test = record { so = λ n i. absurd i; all = λ n h e. absurd (omega arith); rise = tt }

pub listed-next : (test : NumberSet) (bound : ℕ) (list : List ℕ) (there : Bool) → there ≡ test bound → Listed test bound list → Listed test (bound + 1) (list ++ cond there (bound ∷ []) [])
listed-next test bound list true e is =
    record {
      so = λ n i. ⊎_elim (λ was. let b = is.so n was in (omega (arith, b.0), b.1)) (λ new. ⊎_elim (λ same. (omega arith, subst (λ m. test m ≡ true) same (sym e))) (λ no. absurd no) new) (In-append n list (bound ∷ []) i);
      all = λ n h has. ⊎_elim (λ l. In-front n list (bound ∷ []) (is.all n l has)) (λ same. In-back n list (bound ∷ []) (inl same)) (next_or_below n bound h);
      rise = rises-push 0 bound list (omega arith) is.rise;
    }
listed-next test bound list false e is =
    subst (Listed test (bound + 1)) (sym (append-nil list)) (record {
      so = λ n i. let b = is.so n i in (omega (arith, b.0), b.1);
      all = λ n h has. ⊎_elim (λ l. is.all n l has) (λ same. absurd (false≢true (e ∙ ap test same ∙ has))) (next_or_below n bound h);
      rise = rises-higher 0 bound (bound + 1) list (omega arith) is.rise;
    })

pub listed-end : (test : NumberSet) (IsSo : ℕ → Type 0) (bound : ℕ) (list : List ℕ) → ((n : ℕ) → n < bound → test n ≡ true → IsSo n) → ((n : ℕ) → IsSo n → (n < bound) × (test n ≡ true)) → Listed test bound list → AreAll IsSo bound list
listed-end test IsSo bound list to back is =
    record {
      exact = λ n. ((λ c. let b = is.so n (In-contains n list c) in to n b.0 b.1), (λ so. let b = back n so in contains_In n list (is.all n b.0 b.1)));
      rise = is.rise;
    }

-- what two say of the same numbers
pub all-as : (P Q : ℕ → Type 0) (bound high : ℕ) (list : List ℕ) → bound ≡ high → ((n : ℕ) → P n → Q n) → ((n : ℕ) → Q n → P n) → AreAll P bound list → AreAll Q high list
all-as P Q bound high list same to back is =
    record {
      exact = λ n. ((λ c. to n ((is.exact n).0 c)), (λ so. (is.exact n).1 (back n so)));
      rise = subst (λ (k : ℕ). RisesWithin 0 k list) same is.rise;
    }

-- ---- what is in one set and not in another

-- the test of it
abbrev pub is_missing : NumberSet → NumberSet → NumberSet
is_missing wanted found n = wanted n && not (found n)

not-is : (b : Bool) → not b ≡ true → b ≡ false
not-is true e = absurd (false≢true e)
not-is false e = refl

pub missing-end : (wanted found : NumberSet) (bound : ℕ) (list : List ℕ) → Listed (is_missing wanted found) bound list → AreAll (λ n. (n < bound) × (wanted n ≡ true) × (found n ≡ false)) bound list
missing-end wanted found bound list is =
    listed-end (is_missing wanted found) (λ n. (n < bound) × (wanted n ≡ true) × (found n ≡ false)) bound list
    (λ n h t. let both = and_parts (wanted n) (not (found n)) t in (h, both.0, not-is (found n) both.1))
    (λ n so. (so.0, and_from (wanted n) (not (found n)) so.1 (ap not so.2))) is

false-from : (b : Bool) → (b ≡ true → ⊥) → b ≡ false
false-from true none = absurd (none refl)
false-from false none = refl

-- what is said of the numbers that are in one set and not in another
pub missing-as : (F Q : ℕ → Type 0) (wanted found : NumberSet) (bound high : ℕ) (list : List ℕ) → bound ≡ high → ((n : ℕ) → (found n ≡ true) ↔ F n)
    → ((n : ℕ) → n < high → wanted n ≡ true → (F n → ⊥) → Q n) → ((n : ℕ) → Q n → (n < high) × (wanted n ≡ true) × (F n → ⊥))
    → AreAll (λ n. (n < bound) × (wanted n ≡ true) × (found n ≡ false)) bound list → AreAll Q high list
missing-as F Q wanted found bound high list same exact to back are =
    all-as (λ n. (n < bound) × (wanted n ≡ true) × (found n ≡ false)) Q bound high list same
    (λ n so. let low = so.0 in to n (omega arith) so.1 (λ f. false≢true (sym so.2 ∙ (exact n).1 f)))
    (λ n q. let so = back n q in let low = so.0 in (omega arith, so.1, false-from (found n) (λ h. so.2 ((exact n).0 h)))) are
