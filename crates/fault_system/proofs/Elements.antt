-- What is in a list, by recursion; and what is true of each element.
use Rattle.std.proofs.Common.{ℕ, zero, suc, ◌-◌, ◌≡◌, ◌<◌, ◌⊎◌, Bool, true, false, cond, slice_index_or, List, [], ◌∷◌, ◌++◌, length, length-append, take, map, filter, Contains, inl, inr, ⊎_elim, ap, ◌∙◌, sym, refl, subst, arith}
use Rattle.std.proofs.lemmas.Bool.{false≢true}
use Rattle.std.specs.List.{AllByRecursion}

-- x is an element
abbrev pub In : {X : Type 0} → X → List X → Type 0
In x [] = ⊥
In x (y ∷ ys) = (y ≡ x) ⊎ In x ys

pub In-contains : {X : Type 0} (x : X) (xs : List X) → Contains xs x → In x xs
In-contains x [] c = absurd (omega (arith, c.1))
In-contains x (y ∷ ys) c = at c.0 c.1 c.2 (λ k h e. In-contains x ys (k, h, e)) where
  at : (k : ℕ) → k < length (y ∷ ys) → slice_index_or (y ∷ ys) k x ≡ x → ((j : ℕ) → j < length ys → slice_index_or ys j x ≡ x → In x ys) → (y ≡ x) ⊎ In x ys
  at zero h e rest = inl e
  at (suc k) h e rest = inr (rest k (omega arith) e)

pub contains_In : {X : Type 0} (x : X) (xs : List X) → In x xs → Contains xs x
contains_In x [] i = absurd i
contains_In {X} x (y ∷ ys) i = ⊎_elim (λ e. (0, omega arith, e)) (λ r. let c : Contains ys x = contains_In x ys r in (suc c.0, omega (arith, c.1), c.2)) i

pub In-append : {X : Type 0} (x : X) (xs ys : List X) → In x (xs ++ ys) → In x xs ⊎ In x ys
In-append x [] ys i = inr i
In-append x (z ∷ zs) ys i = ⊎_elim (λ e. inl (inl e)) (λ r. ⊎_elim (λ f. inl (inr f)) (λ b. inr b) (In-append x zs ys r)) i

pub In-front : {X : Type 0} (x : X) (xs ys : List X) → In x xs → In x (xs ++ ys)
In-front x [] ys i = absurd i
In-front x (z ∷ zs) ys i = ⊎_elim (λ e. inl e) (λ r. inr (In-front x zs ys r)) i

pub In-back : {X : Type 0} (x : X) (xs ys : List X) → In x ys → In x (xs ++ ys)
In-back x [] ys i = i
In-back x (z ∷ zs) ys i = inr (In-back x zs ys i)

pub In-map : {X Y : Type 0} (f : X → Y) (y : Y) (xs : List X) → In y (map f xs) → (x : X) × In x xs × (f x ≡ y)
In-map f y [] i = absurd i
In-map f y (x ∷ xs) i = ⊎_elim (λ e. (x, inl refl, e)) (λ r. let t = In-map f y xs r in (t.0, inr t.1, t.2)) i

pub In-mapped : {X Y : Type 0} (f : X → Y) (x : X) (xs : List X) → In x xs → In (f x) (map f xs)
In-mapped f x [] i = absurd i
In-mapped f x (z ∷ zs) i = ⊎_elim (λ e. inl (ap f e)) (λ r. inr (In-mapped f x zs r)) i

filter_in : {X : Type 0} (b : Bool) (p : X → Bool) (x y : X) (ys : List X) → p y ≡ b → (In x ys → In x (filter p ys)) → p x ≡ true → (y ≡ x) ⊎ In x ys → In x (cond b (y ∷ filter p ys) (filter p ys))
filter_in true p x y ys e rest h i = ⊎_elim (λ s. inl s) (λ r. inr (rest r)) i
filter_in false p x y ys e rest h i = ⊎_elim (λ s. absurd (false≢true (sym e ∙ ap p s ∙ h))) rest i

pub In-filtered : {X : Type 0} (p : X → Bool) (x : X) (xs : List X) → p x ≡ true → In x xs → In x (filter p xs)
In-filtered p x [] h i = i
In-filtered p x (y ∷ ys) h i = filter_in (p y) p x y ys refl (In-filtered p x ys h) h i

filter_out : {X : Type 0} (b : Bool) (p : X → Bool) (x y : X) (ys : List X) → p y ≡ b → (In x (filter p ys) → In x ys × (p x ≡ true)) → In x (cond b (y ∷ filter p ys) (filter p ys)) → ((y ≡ x) ⊎ In x ys) × (p x ≡ true)
filter_out true p x y ys e rest i = ⊎_elim (λ s. (inl s, ap p (sym s) ∙ e)) (λ r. (inr (rest r).0, (rest r).1)) i
filter_out false p x y ys e rest i = (inr (rest i).0, (rest i).1)

pub In-filter : {X : Type 0} (p : X → Bool) (x : X) (xs : List X) → In x (filter p xs) → In x xs × (p x ≡ true)
In-filter p x [] i = absurd i
In-filter p x (y ∷ ys) i = filter_out (p y) p x y ys refl (In-filter p x ys) i

pub each-at : {X : Type 0} (P : X → Type 0) (x : X) (xs : List X) → AllByRecursion P xs → In x xs → P x
each-at P x [] a i = absurd i
each-at P x (y ∷ ys) a i = ⊎_elim (λ e. subst P e a.0) (λ r. each-at P x ys a.1 r) i

pub each-made : {X : Type 0} (P : X → Type 0) (xs : List X) → ((x : X) → In x xs → P x) → AllByRecursion P xs
each-made P [] h = tt
each-made P (x ∷ xs) h = (h x (inl refl), each-made P xs (λ y i. h y (inr i)))

-- a list from which the number that was pushed is popped
pub popped : (xs ps ys zs : List ℕ) (y n : ℕ) → ps ≡ xs ++ y ∷ [] → ys ≡ ps → n ≡ length ys → zs ≡ take (n - 1) ys → zs ≡ xs
popped xs ps ys zs y n put kept sized rest =
    let pushed : ys ≡ xs ++ y ∷ [] = kept ∙ put in
    let size : n - 1 ≡ length xs = omega (arith, sized, ap length pushed, length-append xs (y ∷ [])) in
    rest ∙ rw (size, pushed) (take_front xs)
  where
    take_front : (us : List ℕ) → take (length us) (us ++ y ∷ []) ≡ us
    take_front [] = refl
    take_front (u ∷ us) = ap (λ vs. u ∷ vs) (take_front us)
