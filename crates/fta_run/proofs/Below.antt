-- The numbers below a number are below it.
use Rattle.std.proofs.Common.{ℕ, zero, suc, ◌+◌, ◌<◌, ◌≡◌, ◌++◌, ◌∷◌, [], List, All, subst, sym, arith}
use Rattle.plain_values.specs.Numbered.{numbers_below}
use Rattle.plain_values.specs.Rising.{RisesWithin}
use Rattle.plain_values.proofs.Rising.{rises-push}
use Rattle.fault_system.proofs.NumberSets.{RisesWithin-each}

-- the numbers below a number rise
pub below_rise : (n : ℕ) → RisesWithin 0 n (numbers_below n)
below_rise zero = tt
below_rise (suc n) =
    let one : n + 1 ≡ suc n = omega arith in
    subst (λ high. RisesWithin 0 high (numbers_below n ++ n ∷ [])) one (rises-push 0 n (numbers_below n) (omega arith) (below_rise n))

pub all_below : (n : ℕ) (numbers : List ℕ) → numbers ≡ numbers_below n → All (λ number. number < n) numbers
all_below n numbers are = subst (All (λ number. number < n)) (sym are) (RisesWithin-each 0 n (numbers_below n) (below_rise n))
