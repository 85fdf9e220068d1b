-- How many items pass a test.
use Rattle.std.proofs.Common.{◌≤◌, Bool, true, false, cond, List, [], ◌∷◌, filter, length, arith}

fewer : {X : Type 0} (b : Bool) (x : X) (xs ys : List X) → length ys ≤ length xs → length (cond b (x ∷ ys) ys) ≤ length (x ∷ xs)
fewer true x xs ys few = omega (arith, few)
fewer false x xs ys few = omega (arith, few)

-- those of some items that pass are no more than all
pub filtered-fewer : {X : Type 0} (p : X → Bool) (xs : List X) → length (filter p xs) ≤ length xs
filtered-fewer p [] = omega arith
filtered-fewer p (x ∷ xs) = fewer (p x) x xs (filter p xs) (filtered-fewer p xs)
