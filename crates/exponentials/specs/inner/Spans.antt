-- Bounds of numbers, in parts of the whole.
use Rattle.std.specs.Prelude.{ℕ, ◌-◌, ◌*◌, ◌^◌, ◌<◌, ◌≤◌, ◌≡◌, ◌⊎◌}
use Rattle.decimals.specs.Decimals.{parts}
use Rattle.exponentials.specs.declared.span.Span.{Span}
use Rattle.exponentials.specs.declared.halving.Chance.{Chance}
use Rattle.exponentials.specs.Exponentials.{IsAtLeastChance, IsAtMostChance}

-- n out of d is no less than the lower bound
abbrev pub IsAbove : ℕ → ℕ → ℕ → Span → Type 0
IsAbove whole n d span = parts span.low * d ≤ n * 10 ^ whole

-- and no more than the upper one
abbrev pub IsBelow : ℕ → ℕ → ℕ → Span → Type 0
IsBelow whole n d span = n * 10 ^ whole ≤ parts span.high * d

-- it lies within the two
pub record IsWithin (whole n d : ℕ) (span : Span) : Type 0 where
  pub least : IsAbove whole n d span
  pub most : IsBelow whole n d span

-- The bounds hold of 1 - e^(-x) for each x within bounds: x is halved so often that it is 1 at most, and what is taken from the whole
-- then, e^(-x/2^k), is squared as often. Or nothing is said.
pub record AreChances (whole : ℕ) (x : Span) (chance : Chance) : Type 0 where
  pub least : (a b d m : ℕ) → 0 < b → IsWithin whole a b x → IsAtLeastChance a (b * 2 ^ chance.halvings) d m
      → IsAbove whole (d ^ (2 ^ chance.halvings) - (d - m) ^ (2 ^ chance.halvings)) (d ^ (2 ^ chance.halvings)) chance.span
  pub most : (a b d m : ℕ) → 0 < b → IsWithin whole a b x → IsAtMostChance a (b * 2 ^ chance.halvings) d m
      → IsBelow whole (d ^ (2 ^ chance.halvings) - (d - m) ^ (2 ^ chance.halvings)) (d ^ (2 ^ chance.halvings)) chance.span
  pub enough : (parts x.high ≤ 10 ^ whole * 2 ^ chance.halvings) ⊎ ((parts chance.span.low ≡ 0) × (parts chance.span.high ≡ 10 ^ whole))
  pub small : parts x.high ≤ 10 ^ whole → chance.halvings ≡ 0
