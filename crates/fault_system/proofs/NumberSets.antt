-- Sets of numbers: lists of marks, lists of numbers, and rising lists.
use Rattle.std.proofs.Common.{ℕ, zero, suc, ◌+◌, ◌≡◌, ◌<◌, ◌≤◌, ◌⊎◌, Bool, true, false, ◌&&◌, ◌||◌, cond, eqb, List, [], ◌∷◌, length, map, set, replicate, filter, Some, None, All, Contains, inl, inr, ⊎_elim, ap, ◌∙◌, sym, refl, subst, arith, eqb-true, eq-eqb}
use Rattle.std.specs.List.{list_all, slice_get}
use Rattle.std.proofs.lemmas.Bool.{false≢true, and_from, and_parts, and_right, cases_Bool, cases_eq, ne_eqb, or_right}
use Rattle.std.proofs.lemmas.List.{get_or-set_same, get_or-set_other}
use Rattle.std.proofs.lemmas.List.Folds.{list_any_at}
use Rattle.plain_values.specs.Rising.{RisesWithin}
use Rattle.fault_system.specs.Truth.{NumberSet, Has, member, set_of, count_true}
use Rattle.fault_system.specs.CutSets.{IsSubset}

pub same_set : {a b : NumberSet} → ((n : ℕ) → a n ≡ b n) → a ≡ b
same_set h = λ i n. h n i

-- ---- lists of marks

-- the mark that a test gives at a place
pub member-map : {X : Type 0} (f : X → Bool) (xs : List X) (n : ℕ) (x : X) → slice_get xs n ≡ Some x → member (map f xs) n ≡ f x
member-map f [] n x e = absurd (cc)
member-map f (y ∷ ys) zero x e = let same : y ≡ x = cc in ap f same
member-map f (y ∷ ys) (suc n) x e = member-map f ys n x e

pub member-past : {X : Type 0} (f : X → Bool) (xs : List X) (n : ℕ) → slice_get xs n ≡ None → member (map f xs) n ≡ false
member-past f [] n e = refl
member-past f (y ∷ ys) zero e = absurd (cc)
member-past f (y ∷ ys) (suc n) e = member-past f ys n e

-- no number is in a set of false marks
pub member-none : {X : Type 0} (xs : List X) (n : ℕ) → member (map (λ _. false) xs) n ≡ false
member-none [] n = refl
member-none (x ∷ xs) zero = refl
member-none (x ∷ xs) (suc n) = member-none xs n

pub member-replicate : (size n : ℕ) → member (replicate size false) n ≡ false
member-replicate zero n = refl
member-replicate (suc size) zero = refl
member-replicate (suc size) (suc n) = member-replicate size n

-- what is in a set into which a number was put
pub member-put : (bs : List Bool) (n m : ℕ) → Has (member (set bs n true)) m → (m ≡ n) ⊎ Has (member bs) m
member-put [] n m e = inr e
member-put (b ∷ bs) zero zero e = inl refl
member-put (b ∷ bs) zero (suc m) e = inr e
member-put (b ∷ bs) (suc n) zero e = inr e
member-put (b ∷ bs) (suc n) (suc m) e = ⊎_elim (λ s. inl (ap suc s)) (λ h. inr h) (member-put bs n m e)

pub count-put : (bs : List Bool) (n : ℕ) → n < length bs → member bs n ≡ false → count_true (set bs n true) ≡ count_true bs + 1
count-put [] n h e = absurd (omega arith)
count-put (true ∷ bs) zero h e = absurd (false≢true (sym e))
count-put (false ∷ bs) zero h e = refl
count-put (true ∷ bs) (suc n) h e = omega (arith, count-put bs n (omega arith) e)
count-put (false ∷ bs) (suc n) h e = count-put bs n (omega arith) e

-- what is in a set of marks has its place there
pub member-in : (bs : List Bool) (n : ℕ) → Has (member bs) n → n < length bs
member-in [] n h = absurd (false≢true h)
member-in (b ∷ bs) zero h = omega arith
member-in (b ∷ bs) (suc n) h = omega (arith, member-in bs n h)

or_none : (b : Bool) → b || false ≡ b
or_none true = refl
or_none false = refl

pub member-set : (bs : List Bool) (n m : ℕ) → n < length bs → member (set bs n true) m ≡ member bs m || eqb n m
member-set bs n m h = ⊎_elim
    (λ same. subst (λ k. member (set bs n true) k ≡ true) same (get_or-set_same bs n true false h) ∙ sym (or_right (member bs m) _ (eq-eqb n m same)))
    (λ differ. get_or-set_other bs n m true false (λ e. differ (sym e)) ∙ sym (ap (λ b. member bs m || b) (ne_eqb n m differ) ∙ or_none (member bs m)))
    (cases_eq n m)

-- ---- lists of numbers

-- the members of a list: its first number, and those of its rest
pub set_of-first : (x : ℕ) (xs : List ℕ) → Has (set_of (x ∷ xs)) x
set_of-first x xs = ap (λ b. b || set_of xs x) (eq-eqb x x refl)

pub set_of-rest : (x : ℕ) (xs : List ℕ) (n : ℕ) → Has (set_of xs) n → Has (set_of (x ∷ xs)) n
set_of-rest x xs n h = rest (eqb x n) h where
  rest : (b : Bool) → set_of xs n ≡ true → b || set_of xs n ≡ true
  rest true e = refl
  rest false e = e

pub set_of-cases : (x : ℕ) (xs : List ℕ) (n : ℕ) → Has (set_of (x ∷ xs)) n → (x ≡ n) ⊎ Has (set_of xs) n
set_of-cases x xs n h = ⊎_elim (λ e. inl (eqb-true x n e)) (λ e. inr (subst (λ b. b || set_of xs n ≡ true) e h)) (cases_Bool (eqb x n))

-- what is in a list is in its set, and the other way
pub contained-in_set : (xs : List ℕ) (n : ℕ) → Contains xs n → Has (set_of xs) n
contained-in_set xs n (k, fits, is) = list_any_at (λ m. eqb m n) xs k n fits (eq-eqb _ _ is)

pub set_of-contained : (xs : List ℕ) (n : ℕ) → Has (set_of xs) n → Contains xs n
set_of-contained [] n h = absurd (false≢true h)
set_of-contained (x ∷ xs) n h = ⊎_elim (λ e. (0, omega arith, e)) (λ there. let c : Contains xs n = set_of-contained xs n there in (suc c.0, omega (arith, c.1), c.2)) (set_of-cases x xs n h)

-- a test passes at each number of a list
pub list_all-at : (p : ℕ → Bool) (xs : List ℕ) (n : ℕ) → list_all p xs ≡ true → Has (set_of xs) n → p n ≡ true
list_all-at p [] n e h = absurd (false≢true h)
list_all-at p (x ∷ xs) n e h =
    let both = and_parts (p x) (list_all p xs) e in
    ⊎_elim (λ is. subst (λ m. p m ≡ true) is both.0) (λ r. list_all-at p xs n both.1 r) (set_of-cases x xs n h)

pub list_all-made : (p : ℕ → Bool) (xs : List ℕ) → ((n : ℕ) → Has (set_of xs) n → p n ≡ true) → list_all p xs ≡ true
list_all-made p [] h = refl
list_all-made p (x ∷ xs) h = and_from (p x) (list_all p xs) (h x (set_of-first x xs)) (list_all-made p xs (λ n e. h n (set_of-rest x xs n e)))

-- ---- rising lists
pub RisesWithin-lower : (a b high : ℕ) (xs : List ℕ) → a ≤ b → RisesWithin b high xs → RisesWithin a high xs
RisesWithin-lower a b high [] h r = r
RisesWithin-lower a b high (x ∷ xs) h r = (omega (arith, h, r.0), r.1, r.2)

pub RisesWithin-at : (low high : ℕ) (xs : List ℕ) (n : ℕ) → RisesWithin low high xs → Has (set_of xs) n → (low ≤ n) × (n < high)
RisesWithin-at low high [] n r h = absurd (false≢true h)
RisesWithin-at low high (x ∷ xs) n r h = ⊎_elim
    (λ is. (subst (λ m. low ≤ m) is r.0, subst (λ m. m < high) is r.1))
    (λ e. let in_rest = RisesWithin-at (x + 1) high xs n r.2 e in (omega (arith, in_rest.0, r.0), in_rest.1))
    (set_of-cases x xs n h)

rises_with : (b : Bool) (low high x : ℕ) (xs : List ℕ) → low ≤ x → x < high → RisesWithin (x + 1) high xs → RisesWithin low high (cond b (x ∷ xs) xs)
rises_with true low high x xs above below rest = (above, below, rest)
rises_with false low high x xs above below rest = RisesWithin-lower low (x + 1) high xs (omega arith) rest

pub RisesWithin-filter : (p : ℕ → Bool) (low high : ℕ) (xs : List ℕ) → RisesWithin low high xs → RisesWithin low high (filter p xs)
RisesWithin-filter p low high [] r = r
RisesWithin-filter p low high (x ∷ xs) r = rises_with (p x) low high x (filter p xs) r.0 r.1 (RisesWithin-filter p (x + 1) high xs r.2)

-- rising lists with the same numbers are the same
same_heads : (high x y : ℕ) (xs ys : List ℕ) → RisesWithin (x + 1) high xs → RisesWithin (y + 1) high ys → Has (set_of (y ∷ ys)) x → Has (set_of (x ∷ xs)) y → x ≡ y
same_heads high x y xs ys r s f g = ⊎_elim (λ e. sym e) (λ h. ⊎_elim (λ e. e)
    (λ k. absurd (omega (arith, (RisesWithin-at (y + 1) high ys x s h).0, (RisesWithin-at (x + 1) high xs y r k).0))) (set_of-cases x xs y g)) (set_of-cases y ys x f)

into : (high a b : ℕ) (us vs : List ℕ) → a ≡ b → RisesWithin (a + 1) high us → IsSubset (a ∷ us) (b ∷ vs) → IsSubset us vs
into high a b us vs e rises part n h =
    let above : a + 1 ≤ n = (RisesWithin-at (a + 1) high us n rises h).0 in
    ⊎_elim (λ is. absurd (omega arith)) (λ k. k) (set_of-cases b vs n (part n (set_of-rest a us n h)))

pub same_rising : (low low' high : ℕ) (xs ys : List ℕ) → RisesWithin low high xs → RisesWithin low' high ys → IsSubset xs ys → IsSubset ys xs → xs ≡ ys
same_rising low low' high [] [] r s f g = refl
same_rising low low' high [] (y ∷ ys) r s f g = absurd (false≢true (g y (set_of-first y ys)))
same_rising low low' high (x ∷ xs) [] r s f g = absurd (false≢true (f x (set_of-first x xs)))
same_rising low low' high (x ∷ xs) (y ∷ ys) r s f g =
    let heads = same_heads high x y xs ys r.2 s.2 (f x (set_of-first x xs)) (g y (set_of-first y ys)) in
    let tails = same_rising (x + 1) (y + 1) high xs ys r.2 s.2 (into high x y xs ys heads r.2 f) (into high y x ys xs (sym heads) s.2 g) in
    λ i. heads i ∷ tails i

-- what a filter keeps
kept : (same s here found : Bool) → (same ≡ true → here ≡ true) → found ≡ s && here → same || found ≡ (same || s) && here
kept true s here found h e = sym (h refl)
kept false s here found h e = e

dropped : (same s here found : Bool) → (same ≡ true → here ≡ false) → found ≡ s && here → found ≡ (same || s) && here
dropped true s here found h e = e ∙ and_right s here (h refl) ∙ sym (h refl)
dropped false s here found h e = e

filter_step : (b : Bool) (p : ℕ → Bool) (x : ℕ) (xs : List ℕ) (n : ℕ) (s : Bool) → p x ≡ b → set_of xs n ≡ s && p n → set_of (cond b (x ∷ xs) xs) n ≡ (eqb x n || s) && p n
filter_step true p x xs n s e rest = kept (eqb x n) s (p n) (set_of xs n) (λ is. ap p (sym (eqb-true x n is)) ∙ e) rest
filter_step false p x xs n s e rest = dropped (eqb x n) s (p n) (set_of xs n) (λ is. ap p (sym (eqb-true x n is)) ∙ e) rest

pub set_of-filter : (p : ℕ → Bool) (xs : List ℕ) (n : ℕ) → set_of (filter p xs) n ≡ set_of xs n && p n
set_of-filter p [] n = refl
set_of-filter p (x ∷ xs) n = filter_step (p x) p x (filter p xs) n (set_of xs n) refl (set_of-filter p xs n)

-- each number of a rising list is below its end
pub RisesWithin-each : (low high : ℕ) (xs : List ℕ) → RisesWithin low high xs → All (λ n. n < high) xs
RisesWithin-each low high [] r k d h = absurd (omega arith)
RisesWithin-each low high (x ∷ xs) r zero d h = r.1
RisesWithin-each low high (x ∷ xs) r (suc k) d h = RisesWithin-each (x + 1) high xs r.2 k d (omega arith)
