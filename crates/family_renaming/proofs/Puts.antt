-- A number put at its place in a list, and the names of a set put one after another.
use Rattle.std.proofs.Common.{◌≡◌, ◌<◌, ◌≤◌, ◌⊎◌, ℕ, zero, suc, min, if◌then◌else◌, List, [], ◌∷◌, length, slice_index_or, refl, sym, ap, ◌∙◌, subst, inl, inr, arith, eq-eqb}
use Rattle.std.specs.Prelude.{◌==◌}
use Rattle.std.specs.List.{insert}
use Rattle.std.proofs.lemmas.Bool.{cases_lt, lt-ltb}
use Rattle.zdd_store.specs.inner.Family.{least_of, IsRising}
use Rattle.zdd_families.specs.inner.Unions.{with_number}
use Rattle.family_renaming.specs.inner.Renaming.{name_of, renamed}
use Rattle.family_renaming.specs.inner.Lists.{with_names}
use Rattle.family_renaming.proofs.Firsts.{with_later, not_less, least-with}

pub with_less : (n m : ℕ) (ms : List ℕ) → n < m → with_number n (m ∷ ms) ≡ n ∷ m ∷ ms
with_less n m ms h = ap (λ b. if b then n ∷ m ∷ ms else if n == m then m ∷ ms else m ∷ with_number n ms) (lt-ltb n m h)

pub with_same : (n m : ℕ) (ms : List ℕ) → n ≡ m → with_number n (m ∷ ms) ≡ m ∷ ms
with_same n m ms h =
    ap (λ b. if b then n ∷ m ∷ ms else if n == m then m ∷ ms else m ∷ with_number n ms) (not_less n m (omega arith))
    ∙ ap (λ b. if b then m ∷ ms else m ∷ with_number n ms) (eq-eqb n m h)

-- which of two numbers is less
compared : (a b : ℕ) → (a < b) ⊎ ((a ≡ b) ⊎ (b < a))
compared a b = by (cases_lt a b) (cases_lt b a)
  where
    by : (a < b) ⊎ (b ≤ a) → (b < a) ⊎ (a ≤ b) → (a < b) ⊎ ((a ≡ b) ⊎ (b < a))
    by (inl h) k = inl h
    by (inr h) (inl k) = inr (inr k)
    by (inr h) (inr k) = inr (inl (omega arith))

-- two numbers may be put in either order
pub with_swap : (a b : ℕ) (set : List ℕ) → with_number a (with_number b set) ≡ with_number b (with_number a set)
with_swap a b [] = by (compared a b)
  where
    by : (a < b) ⊎ ((a ≡ b) ⊎ (b < a)) → with_number a (b ∷ []) ≡ with_number b (a ∷ [])
    by (inl h) = with_less a b [] h ∙ sym (with_later b a [] h)
    by (inr (inl e)) = with_same a b [] e ∙ ap (λ n. n ∷ []) (sym e) ∙ sym (with_same b a [] (sym e))
    by (inr (inr h)) = with_later a b [] h ∙ sym (with_less b a [] h)
with_swap a b (m ∷ ms) = by (compared a b) (compared a m) (compared b m) (with_swap a b ms)
  where
    by : (a < b) ⊎ ((a ≡ b) ⊎ (b < a)) → (a < m) ⊎ ((a ≡ m) ⊎ (m < a)) → (b < m) ⊎ ((b ≡ m) ⊎ (m < b)) → with_number a (with_number b ms) ≡ with_number b (with_number a ms)
        → with_number a (with_number b (m ∷ ms)) ≡ with_number b (with_number a (m ∷ ms))
    by (inl h) (inl k) (inl l) more = ap (with_number a) (with_less b m ms l) ∙ with_less a b (m ∷ ms) h ∙ ap (λ s. a ∷ s) (sym (with_less b m ms l)) ∙ sym (with_later b a (m ∷ ms) h) ∙ ap (with_number b) (sym (with_less a m ms k))
    by (inr (inl e)) k l more = ap (λ n. with_number n (with_number b (m ∷ ms))) e ∙ ap (λ n. with_number b (with_number n (m ∷ ms))) (sym e)
    by (inr (inr h)) (inl k) (inl l) more = ap (with_number a) (with_less b m ms l) ∙ with_later a b (m ∷ ms) h ∙ ap (λ s. b ∷ s) (with_less a m ms k) ∙ sym (with_less b a (m ∷ ms) h) ∙ ap (with_number b) (sym (with_less a m ms k))
    by h (inl k) (inr (inl f)) more = ap (with_number a) (with_same b m ms f) ∙ with_less a m ms k ∙ ap (λ s. a ∷ s) (sym (with_same b m ms f)) ∙ sym (with_later b a (m ∷ ms) (omega arith)) ∙ ap (with_number b) (sym (with_less a m ms k))
    by h (inl k) (inr (inr l)) more = ap (with_number a) (with_later b m ms l) ∙ with_less a m (with_number b ms) k ∙ ap (λ s. a ∷ s) (sym (with_later b m ms l)) ∙ sym (with_later b a (m ∷ ms) (omega arith)) ∙ ap (with_number b) (sym (with_less a m ms k))
    by h (inr (inl f)) (inl l) more = ap (with_number a) (with_less b m ms l) ∙ with_later a b (m ∷ ms) (omega arith) ∙ ap (λ s. b ∷ s) (with_same a m ms f) ∙ sym (with_less b m ms l) ∙ ap (with_number b) (sym (with_same a m ms f))
    by h (inr (inr k)) (inl l) more = ap (with_number a) (with_less b m ms l) ∙ with_later a b (m ∷ ms) (omega arith) ∙ ap (λ s. b ∷ s) (with_later a m ms k) ∙ sym (with_less b m (with_number a ms) l) ∙ ap (with_number b) (sym (with_later a m ms k))
    by h (inr (inl f)) (inr (inl g)) more = ap (with_number a) (with_same b m ms g) ∙ with_same a m ms f ∙ sym (with_same b m ms g) ∙ ap (with_number b) (sym (with_same a m ms f))
    by h (inr (inl f)) (inr (inr l)) more = ap (with_number a) (with_later b m ms l) ∙ with_same a m (with_number b ms) f ∙ sym (with_later b m ms l) ∙ ap (with_number b) (sym (with_same a m ms f))
    by h (inr (inr k)) (inr (inl g)) more = ap (with_number a) (with_same b m ms g) ∙ with_later a m ms k ∙ sym (with_same b m (with_number a ms) g) ∙ ap (with_number b) (sym (with_later a m ms k))
    by h (inr (inr k)) (inr (inr l)) more = ap (with_number a) (with_later b m ms l) ∙ with_later a m (with_number b ms) k ∙ ap (λ s. m ∷ s) more ∙ sym (with_later b m (with_number a ms) l) ∙ ap (with_number b) (sym (with_later a m ms k))

-- the names of a set put into another with one number more
names_with : (names : List ℕ) (numbers set : List ℕ) (n : ℕ) → with_names names numbers (with_number n set) ≡ with_number n (with_names names numbers set)
names_with names [] set n = refl
names_with names (m ∷ ms) set n = ap (with_names names ms) (with_swap (name_of names m) n set) ∙ names_with names ms (with_number (name_of names m) set) n

-- put into the empty set they are the set renamed
pub names_renamed : (names numbers : List ℕ) → with_names names numbers [] ≡ renamed names numbers
names_renamed names [] = refl
names_renamed names (n ∷ ns) = names_with names ns [] (name_of names n) ∙ ap (with_number (name_of names n)) (names_renamed names ns)

-- the numbers before a place are less
abbrev pub AllBefore : ℕ → List ℕ → ℕ → Type 0
AllBefore n set place = (k : ℕ) → k < place → slice_index_or set k 0 < n

-- a number that stands at its place
pub put_there : (n : ℕ) (set : List ℕ) (place : ℕ) → AllBefore n set place → place < length set → n ≡ slice_index_or set place 0 → set ≡ with_number n set
put_there n [] place before h e = absurd (omega arith)
put_there n (m ∷ ms) zero before h e = sym (with_same n m ms e)
put_there n (m ∷ ms) (suc place) before h e =
    ap (λ s. m ∷ s) (put_there n ms place (λ k b. before (suc k) (omega arith)) (omega arith) e) ∙ sym (with_later n m ms (before zero (omega arith)))

-- a number put before a greater one, or at the end
pub put_new : (n : ℕ) (set : List ℕ) (place : ℕ) → AllBefore n set place → place ≤ length set → (place < length set → n < slice_index_or set place 0) → insert set place n ≡ with_number n set
put_new n [] zero before within here = refl
put_new n [] (suc place) before within here = absurd (omega arith)
put_new n (m ∷ ms) zero before within here = sym (with_less n m ms (here (omega arith)))
put_new n (m ∷ ms) (suc place) before within here =
    ap (λ s. m ∷ s) (put_new n ms place (λ k b. before (suc k) (omega arith)) (omega arith) (λ b. here (omega arith))) ∙ sym (with_later n m ms (before zero (omega arith)))

-- a rising list with one more number rises
pub rising_with : (n : ℕ) (set : List ℕ) → n < 4294967296 → IsRising set → IsRising (with_number n set)
unfolding IsRising least_of
rising_with n [] h up = (h, tt)
rising_with n (m ∷ ms) h up = by (compared n m) (rising_with n ms h up.1)
  where
    by : (n < m) ⊎ ((n ≡ m) ⊎ (m < n)) → IsRising (with_number n ms) → IsRising (with_number n (m ∷ ms))
    by (inl k) rest = subst IsRising (sym (with_less n m ms k)) (let first : m < least_of ms = up.0 in omega arith, up)
    by (inr (inl e)) rest = subst IsRising (sym (with_same n m ms e)) up
    by (inr (inr k)) rest =
        subst IsRising (sym (with_later n m ms k)) (let first : m < least_of ms = up.0 in let one : least_of (with_number n ms) ≡ min n (least_of ms) = least-with n ms in omega arith, rest)
