-- Whether a list has an item, by its length.
use Rattle.std.proofs.Common.{◌≡◌, ◌==◌, ℕ, Bool, true, false, List, [], ◌∷◌, length, arith, refl, sym, ap, ◌∙◌}
use Rattle.std.proofs.lemmas.Bool.{false≢true}
use Rattle.std.proofs.lemmas.Bool.Decides.{nat_tests}

zero_is : (n : ℕ) → (n == 0) ≡ true → n ≡ 0
zero_is n is = grind (arith, nat_tests)

pub none-there : {A : Type 0} (xs : List A) → (length xs == 0) ≡ true → xs ≡ []
none-there [] is = refl
none-there (x ∷ xs) is = absurd (omega (arith, zero_is (length (x ∷ xs)) is))

pub some-there : {A : Type 0} (xs : List A) → (length xs == 0) ≡ false → xs ≡ [] → ⊥
some-there {A = A} xs is none = false≢true (sym is ∙ ap (λ (l : List A). length l == 0) none)
