-- The first exception that is stale, in a loop over all.
use Rattle.std.proofs.Common.{ℕ, zero, suc, ◌+◌, ◌≡◌, ◌<◌, List, [], ◌∷◌, ◌++◌, length, take, drop, get_or, sym, ap, subst, add-one, arith}
use Rattle.std.specs.List.{AllByRecursion}
use Rattle.fault_system.specs.Systems.{System}
use Rattle.requirement_verdicts.specs.Meanings.{IsFresh}
use Rattle.requirement_verdicts.specs.Verdicts.{IsFirstStale}

split-at : {A : Type 0} (xs : List A) (i : ℕ) (x : A) → i < length xs → x ≡ get_or xs i x → xs ≡ take i xs ++ x ∷ drop (suc i) xs
split-at [] i x inside is = absurd (omega (arith, inside))
split-at (y ∷ ys) zero x inside is = ap (λ z. z ∷ ys) (sym is)
split-at (y ∷ ys) (suc i) x inside is = ap (λ zs. y ∷ zs) (split-at ys i x (omega (arith, inside)) is)

all-next : {A : Type 0} (P : A → Type 0) (xs : List A) (i : ℕ) (x : A) → i < length xs → x ≡ get_or xs i x → AllByRecursion P (take i xs) → P x → AllByRecursion P (take (suc i) xs)
all-next P [] i x inside is all here = absurd (omega (arith, inside))
all-next P (y ∷ ys) zero x inside is all here = (subst P is here, tt)
all-next P (y ∷ ys) (suc i) x inside is all here = (all.0, all-next P ys i x (omega (arith, inside)) is all.1 here)

-- one more passes
pub all-more : {A : Type 0} (P : A → Type 0) (xs : List A) (i : ℕ) (x : A) → i < length xs → x ≡ get_or xs i x → AllByRecursion P (take i xs) → P x → AllByRecursion P (take (i + 1) xs)
all-more P xs i x inside is all here = subst (λ n. AllByRecursion P (take n xs)) (sym (add-one i)) (all-next P xs i x inside is all here)

pub stale-here : (system : System) (target least : ℕ) (except : List (List ℕ)) (i : ℕ) (set again : List ℕ) → i < length except → set ≡ get_or except i set → again ≡ set
    → AllByRecursion (IsFresh system target least) (take i except) → (IsFresh system target least set → ⊥) → IsFirstStale system target least except again
stale-here system target least except i set again inside is same all stale = record {
  front = take i except;
  rest = drop (suc i) except;
  whole = subst (λ x. except ≡ take i except ++ x ∷ drop (suc i) except) (sym same) (split-at except i set inside is);
  fresh = all;
  stale = λ fresh. stale (subst (IsFresh system target least) same fresh);
}
