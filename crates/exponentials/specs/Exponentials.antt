-- The probability 1 - e^(-x) of an exponential distribution, between the partial sums of its series x (1 - x/2 + x^2/6 - ..).
use Rattle.std.specs.Prelude.{ℕ, zero, suc, ◌+◌, ◌*◌, ◌^◌, ◌≤◌}

-- what stands below x^n / (n + 1)!, where x is a out of b
unfoldable pub below : ℕ → ℕ → ℕ
below b zero = 1
below b (suc n) = below b n * (b * (n + 2))

-- of x/2, x^2/6, .. to x^n / (n + 1)!: the sum of those that have the sign of the last, and of the others
pub record Sums : Type 0 where
  pub latest : ℕ
  pub other : ℕ

unfoldable pub partial : ℕ → ℕ → ℕ → Sums
partial a b zero = record { latest = 0; other = 0 }
partial a b (suc n) = record { latest = (partial a b n).other * (b * (n + 2)) + a ^ (suc n); other = (partial a b n).latest * (b * (n + 2)) }

-- m out of d is 1 at most, and no less than each sum that is below 1 - e^(-x): it is no less than 1 - e^(-x)
pub record IsAtLeastChance (a b d m : ℕ) : Type 0 where
  pub part : m ≤ d
  pub least : (j : ℕ) → a * (below b (2 * j + 1) + (partial a b (2 * j + 1)).other) * d ≤ m * (b * below b (2 * j + 1)) + a * (partial a b (2 * j + 1)).latest * d

-- and no more than each sum that is above it: it is no more than 1 - e^(-x)
pub record IsAtMostChance (a b d m : ℕ) : Type 0 where
  pub part : m ≤ d
  pub most : (j : ℕ) → m * (b * below b (2 * j)) + a * (partial a b (2 * j)).other * d ≤ a * (below b (2 * j) + (partial a b (2 * j)).latest) * d
