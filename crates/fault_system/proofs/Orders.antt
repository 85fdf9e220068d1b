-- The listing order: it is strict, and a list in it is determined by its elements; pages join.
use Rattle.std.proofs.Common.{ℕ, zero, suc, ◌≡◌, ◌<◌, ◌⊎◌, Bool, true, false, cond, eqb, ltb, List, [], ◌∷◌, ◌++◌, length, filter, take, drop, append-nil, append_assoc, Option, None, Some, inl, inr, ⊎_elim, ap, ◌∙◌, sym, refl, subst, arith, eqb-true, eq-eqb, ltb-true, lt-ltb}
use Rattle.std.proofs.lemmas.Bool.{false≢true, and_from, and_parts, cases_Bool, or_cases, or_left, or_right}
use Rattle.std.specs.List.{AllByRecursion}
use Rattle.fault_system.specs.Listings.{is_lower, is_before, IsBefore, IsInListingOrder, sets_after, first_of}
use Rattle.fault_system.proofs.Elements.{In, In-append, In-back, In-filter, each-at, each-made}

-- the order by cases
abbrev pub Lower : List ℕ → List ℕ → Type 0
Lower [] ys = ⊥
Lower (x ∷ xs) [] = ⊥
Lower (x ∷ xs) (y ∷ ys) = (x < y) ⊎ ((x ≡ y) × Lower xs ys)

lower_cases : (xs ys : List ℕ) → is_lower xs ys ≡ true → Lower xs ys
lower_cases [] ys e = false≢true e
lower_cases (x ∷ xs) [] e = false≢true e
lower_cases (x ∷ xs) (y ∷ ys) e = ⊎_elim (λ l. inl (ltb-true x y l))
    (λ r. let both = and_parts (eqb x y) (is_lower xs ys) r in inr (eqb-true x y both.0, lower_cases xs ys both.1))
    (or_cases _ _ e)

lower_made : (xs ys : List ℕ) → Lower xs ys → is_lower xs ys ≡ true
lower_made [] ys l = absurd l
lower_made (x ∷ xs) [] l = absurd l
lower_made (x ∷ xs) (y ∷ ys) l = ⊎_elim (λ h. or_left _ _ (lt-ltb x y h))
    (λ h. or_right (ltb x y) _ (and_from _ _ (eq-eqb x y h.0) (lower_made xs ys h.1))) l

abbrev pub Before : List ℕ → List ℕ → Type 0
Before a b = (length a < length b) ⊎ ((length a ≡ length b) × Lower a b)

pub before_cases : (a b : List ℕ) → IsBefore a b → Before a b
before_cases a b e = ⊎_elim (λ l. inl (ltb-true _ _ l))
    (λ r. let both = and_parts (eqb (length a) (length b)) (is_lower a b) r in inr (eqb-true _ _ both.0, lower_cases a b both.1)) (or_cases _ _ e)

pub before_made : (a b : List ℕ) → Before a b → IsBefore a b
before_made a b h = ⊎_elim (λ l. or_left _ _ (lt-ltb _ _ l))
    (λ r. or_right (ltb (length a) (length b)) _ (and_from _ _ (eq-eqb _ _ r.0) (lower_made a b r.1))) h

lower_not_both : (xs ys : List ℕ) → Lower xs ys → Lower ys xs → ⊥
lower_not_both [] ys l m = l
lower_not_both (x ∷ xs) [] l m = l
lower_not_both (x ∷ xs) (y ∷ ys) l m = ⊎_elim
    (λ h. ⊎_elim (λ k. omega arith) (λ k. omega (arith, k.0)) m)
    (λ h. ⊎_elim (λ k. omega (arith, h.0)) (λ k. lower_not_both xs ys h.1 k.1) m) l

lower_through : (xs ys zs : List ℕ) → Lower xs ys → Lower ys zs → Lower xs zs
lower_through [] ys zs l m = absurd l
lower_through (x ∷ xs) [] zs l m = absurd l
lower_through (x ∷ xs) (y ∷ ys) [] l m = absurd m
lower_through (x ∷ xs) (y ∷ ys) (z ∷ zs) l m = ⊎_elim
    (λ h. ⊎_elim (λ k. inl (omega arith)) (λ k. inl (omega (arith, k.0))) m)
    (λ h. ⊎_elim (λ k. inl (omega (arith, h.0))) (λ k. inr (h.0 ∙ k.0, lower_through xs ys zs h.1 k.1)) m) l

pub not_both_before : (a b : List ℕ) → IsBefore a b → IsBefore b a → ⊥
not_both_before a b e f = ⊎_elim
    (λ h. ⊎_elim (λ k. omega arith) (λ k. omega (arith, k.0)) (before_cases b a f))
    (λ h. ⊎_elim (λ k. omega (arith, h.0)) (λ k. lower_not_both a b h.1 k.1) (before_cases b a f)) (before_cases a b e)

pub before_through : (a b c : List ℕ) → IsBefore a b → IsBefore b c → IsBefore a c
before_through a b c e f = before_made a c (⊎_elim
    (λ h. ⊎_elim (λ k. inl (omega arith)) (λ k. inl (omega (arith, k.0))) (before_cases b c f))
    (λ h. ⊎_elim (λ k. inl (omega (arith, h.0))) (λ k. inr (h.0 ∙ k.0, lower_through a b c h.1 k.1)) (before_cases b c f)) (before_cases a b e))

-- lists in order
pub order-append : (us bs : List (List ℕ)) → IsInListingOrder us → IsInListingOrder bs → ((a b : List ℕ) → In a us → In b bs → IsBefore a b) → IsInListingOrder (us ++ bs)
order-append [] bs o q h = q
order-append (a ∷ rest) bs o q h = (
  each-made (IsBefore a) (rest ++ bs) (λ c i. ⊎_elim (λ l. each-at (IsBefore a) c rest o.0 l) (λ r. h a c (inl refl) r) (In-append c rest bs i)),
  order-append rest bs o.1 q (λ c d i j. h c d (inr i) j),
)

filter_order : (b : Bool) (p : List ℕ → Bool) (a : List ℕ) (rest : List (List ℕ)) → AllByRecursion (IsBefore a) rest → IsInListingOrder (filter p rest) → IsInListingOrder (cond b (a ∷ filter p rest) (filter p rest))
filter_order true p a rest h o = (each-made (IsBefore a) (filter p rest) (λ c i. each-at (IsBefore a) c rest h (In-filter p c rest i).0), o)
filter_order false p a rest h o = o

pub order-filter : (p : List ℕ → Bool) (sets : List (List ℕ)) → IsInListingOrder sets → IsInListingOrder (filter p sets)
order-filter p [] o = tt
order-filter p (a ∷ rest) o = filter_order (p a) p a rest o.0 (order-filter p rest o.1)

-- lists in order with the same elements are the same
order_rest : (a b : List ℕ) (us vs : List (List ℕ)) → a ≡ b → AllByRecursion (IsBefore a) us → ((s : List ℕ) → In s (a ∷ us) → In s (b ∷ vs)) → (s : List ℕ) → In s us → In s vs
order_rest a b us vs e before h s i = ⊎_elim
    (λ is. let after : IsBefore a s = each-at (IsBefore a) s us before i in
    absurd (not_both_before a a (subst (IsBefore a) (sym is ∙ sym e) after) (subst (IsBefore a) (sym is ∙ sym e) after)))
    (λ r. r) (h s (inr i))

pub one_order : (us vs : List (List ℕ)) → IsInListingOrder us → IsInListingOrder vs → ((s : List ℕ) → In s us → In s vs) → ((s : List ℕ) → In s vs → In s us) → us ≡ vs
one_order [] [] o q f g = refl
one_order [] (b ∷ vs) o q f g = absurd (g b (inl refl))
one_order (a ∷ us) [] o q f g = absurd (f a (inl refl))
one_order (a ∷ us) (b ∷ vs) o q f g =
    let heads : a ≡ b = ⊎_elim (λ e. sym e) (λ i. ⊎_elim (λ e. e)
    (λ j. absurd (not_both_before a b (each-at (IsBefore a) b us o.0 j) (each-at (IsBefore b) a vs q.0 i))) (g b (inl refl))) (f a (inl refl)) in
    let tails : us ≡ vs = one_order us vs o.1 q.1 (order_rest a b us vs heads o.0 f) (order_rest b a vs us (sym heads) q.0 g) in
    λ i. heads i ∷ tails i

-- ---- pages

filter_all : (p : List ℕ → Bool) (sets : List (List ℕ)) → ((s : List ℕ) → In s sets → p s ≡ true) → filter p sets ≡ sets
filter_all p [] h = refl
filter_all p (a ∷ rest) h = ap (λ b. cond b (a ∷ filter p rest) (filter p rest)) (h a (inl refl)) ∙ ap (λ xs. a ∷ xs) (filter_all p rest (λ s i. h s (inr i)))

filter_none : (p : List ℕ → Bool) (sets : List (List ℕ)) → ((s : List ℕ) → In s sets → p s ≡ false) → filter p sets ≡ []
filter_none p [] h = refl
filter_none p (a ∷ rest) h = ap (λ b. cond b (a ∷ filter p rest) (filter p rest)) (h a (inl refl)) ∙ filter_none p rest (λ s i. h s (inr i))

filter_append : (p : List ℕ → Bool) (us vs : List (List ℕ)) → filter p (us ++ vs) ≡ filter p us ++ filter p vs
filter_append p [] vs = refl
filter_append p (a ∷ us) vs = append_step (p a) (filter_append p us vs) where
  append_step : (b : Bool) → filter p (us ++ vs) ≡ filter p us ++ filter p vs → cond b (a ∷ filter p (us ++ vs)) (filter p (us ++ vs)) ≡ cond b (a ∷ filter p us) (filter p us) ++ filter p vs
  append_step true e = ap (λ xs. a ∷ xs) e
  append_step false e = e

-- in a list in order, what stands after one of its sets is what follows it there
follows : (front : List (List ℕ)) (last : List ℕ) (rest : List (List ℕ)) → IsInListingOrder (front ++ last ∷ rest) → filter (is_before last) (front ++ last ∷ rest) ≡ rest
follows [] last rest o =
    ap (λ b. cond b (last ∷ filter (is_before last) rest) (filter (is_before last) rest)) (not_before_itself last)
    ∙ filter_all (is_before last) rest (λ s i. each-at (IsBefore last) s rest o.0 i)
  where
    not_before_itself : (a : List ℕ) → is_before a a ≡ false
    not_before_itself a = ⊎_elim (λ e. absurd (not_both_before a a e e)) (λ e. e) (cases_Bool (is_before a a))
follows (a ∷ front) last rest o =
    ap (λ b. cond b (a ∷ filter (is_before last) (front ++ last ∷ rest)) (filter (is_before last) (front ++ last ∷ rest)))
    (⊎_elim (λ e. absurd (not_both_before a last (each-at (IsBefore a) last (front ++ last ∷ rest) o.0 (In-back last front (last ∷ rest) (inl refl))) e)) (λ e. e) (cases_Bool (is_before last a)))
    ∙ follows front last rest o.1

-- what stands after a later set stands after an earlier one
narrowed : (after last : List ℕ) → IsBefore after last → (sets : List (List ℕ)) → filter (is_before last) (filter (is_before after) sets) ≡ filter (is_before last) sets
narrowed after last before [] = refl
narrowed after last before (a ∷ sets) = ⊎_elim
    (λ on. ap (λ b. filter (is_before last) (cond b (a ∷ filter (is_before after) sets) (filter (is_before after) sets))) on
    ∙ narrowed_step (is_before last a) (narrowed after last before sets))
    (λ off. ap (λ b. filter (is_before last) (cond b (a ∷ filter (is_before after) sets) (filter (is_before after) sets))) off
    ∙ narrowed after last before sets
    ∙ ap (λ b. cond b (a ∷ filter (is_before last) sets) (filter (is_before last) sets)) (sym (not_later (cases_Bool (is_before last a)) off)))
    (cases_Bool (is_before after a))
  where
    narrowed_step : (b : Bool) → filter (is_before last) (filter (is_before after) sets) ≡ filter (is_before last) sets → cond b (a ∷ filter (is_before last) (filter (is_before after) sets)) (filter (is_before last) (filter (is_before after) sets)) ≡ cond b (a ∷ filter (is_before last) sets) (filter (is_before last) sets)
    narrowed_step true e = ap (λ xs. a ∷ xs) e
    narrowed_step false e = e

    not_later : (is_before last a ≡ true) ⊎ (is_before last a ≡ false) → is_before after a ≡ false → is_before last a ≡ false
    not_later h off = ⊎_elim (λ e. absurd (false≢true (sym off ∙ before_through after last a before e))) (λ e. e) h

take_part : (n : ℕ) (sets : List (List ℕ)) → take n sets ++ drop n sets ≡ sets
take_part zero sets = refl
take_part (suc n) [] = refl
take_part (suc n) (a ∷ sets) = ap (λ xs. a ∷ xs) (take_part n sets)

first_part : (limit : Option ℕ) (sets : List (List ℕ)) → (rest : List (List ℕ)) × (first_of limit sets ++ rest ≡ sets)
first_part None sets = ([], append-nil sets)
first_part (Some n) sets = (drop n sets, take_part n sets)

after_order : (after : Option (List ℕ)) (sets : List (List ℕ)) → IsInListingOrder sets → IsInListingOrder (sets_after after sets)
after_order None sets o = o
after_order (Some after) sets o = order-filter (is_before after) sets o

after_last : (after : Option (List ℕ)) (sets : List (List ℕ)) (last : List ℕ) → In last (sets_after after sets) → filter (is_before last) (sets_after after sets) ≡ filter (is_before last) sets
after_last None sets last i = refl
after_last (Some after) sets last i = narrowed after last (In-filter (is_before after) last sets i).1 sets

pub pages_join : (sets : List (List ℕ)) (after : Option (List ℕ)) (limit : Option ℕ) (front : List (List ℕ)) (last : List ℕ) → IsInListingOrder sets → front ++ last ∷ [] ≡ first_of limit (sets_after after sets) → (front ++ last ∷ []) ++ filter (is_before last) sets ≡ sets_after after sets
pages_join sets after limit front last o page =
    let later = sets_after after sets in
    let part = first_part limit later in
    let whole : (front ++ last ∷ []) ++ part.0 ≡ later = ap (λ xs. xs ++ part.0) page ∙ part.1 in
    let regrouped : front ++ last ∷ part.0 ≡ later = sym (append_assoc front (last ∷ []) part.0) ∙ whole in
    let ordered : IsInListingOrder (front ++ last ∷ part.0) = subst IsInListingOrder (sym regrouped) (after_order after sets o) in
    let there : In last later = subst (In last) regrouped (In-back last front (last ∷ part.0) (inl refl)) in
    let rest : filter (is_before last) sets ≡ part.0 = sym (after_last after sets last there) ∙ ap (filter (is_before last)) (sym regrouped) ∙ follows front last part.0 ordered in
    ap (λ xs. (front ++ last ∷ []) ++ xs) rest ∙ whole
