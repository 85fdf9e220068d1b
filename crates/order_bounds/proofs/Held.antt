-- From the bounds by the smallest sets to those of the target.
use Rattle.std.proofs.Common.{ℕ, ◌*◌, ◌^◌, ◌≤◌, ◌≡◌, List, length, Option, None, Some, Result, Ok, Err, IfOk, IfNone, IfSome, subst, sym, arith}
use Rattle.std.specs.declared.alloc.AllocError.{AllocError}
use Rattle.std.proofs.Math.Nat.{mul-le-mul_right}
use Rattle.plain_values.specs.Rising.{RisesWithin}
use Rattle.fault_system.specs.Systems.{System}
use Rattle.backward_slice.specs.Slices.{IsSlice}
use Rattle.backward_slice.specs.declared.parts.Slice.{Slice}
use Rattle.decimals.specs.Decimals.{parts}
use Rattle.zdd_store.specs.inner.Family.{Family, covers}
use Rattle.cutset_engine.specs.inner.Families.{HasMinimalCutSets}
use Rattle.probabilities.specs.declared.rates.Bounds.{Bounds}
use Rattle.probabilities.specs.declared.rates.Rate.{Rate}
use Rattle.probabilities.specs.Decided.{rates_of}
use Rattle.probabilities.specs.Rates.{IsWithin}
use Rattle.probabilities.specs.Weights.{numbers}
use Rattle.probabilities.proofs.Cases.{weight-le}
use Rattle.target_probabilities.specs.Probability.{holds_under, most_cases}
use Rattle.order_bounds.specs.Orders.{times}
use Rattle.order_bounds.specs.Targets.{AreBoundsToOrder, AreToldToOrder}
use Rattle.order_bounds.specs.inner.Orders.{AreOrderBounds, IsLeftOut, covers_or_more}
use Rattle.order_bounds.proofs.Above.{more_left}
use Rattle.order_bounds.proofs.Small.{all_small, of_short, small_holds}

module _ (whole : ℕ) (system : System) (slice : Slice) (is : IsSlice system slice.target slice) (list : List Rate) (all : length list ≡ length system.events) (most : ℕ) (family : Family)
    (exact : HasMinimalCutSets system slice.target (Some most) family) (bounds : Bounds) (near : AreOrderBounds whole list family most slice.events bounds) where
  more_held : (d : ℕ) (m : ℕ → ℕ) → times (length list) d m (covers family) ≤ times (length list) d m (holds_under system slice.target)
  more_held d m = weight-le d m (numbers (length list) 0) (covers family) (holds_under system slice.target) (small_holds system slice.target most family exact)

  held_most : (d : ℕ) (m : ℕ → ℕ) → times (length list) d m (holds_under system slice.target) ≤ times (length list) d m (covers_or_more family most slice.events)
  held_most d m = weight-le d m (numbers (length list) 0) (holds_under system slice.target) (covers_or_more family most slice.events) (all_small system slice.target most family exact slice is)

  lower : (d : ℕ) (m : ℕ → ℕ) → IsWithin (10 ^ whole) (rates_of whole list) d m → parts bounds.lower * d ^ length list ≤ times (length list) d m (holds_under system slice.target) * 10 ^ whole
  lower d m within = let a = near.lower d m within in let b = mul-le-mul_right (10 ^ whole) (more_held d m) in omega (arith, a, b)

  upper : (d : ℕ) (m : ℕ → ℕ) → IsWithin (10 ^ whole) (rates_of whole list) d m → times (length list) d m (holds_under system slice.target) * 10 ^ whole ≤ parts bounds.upper * d ^ length list
  upper d m within = let a = near.upper d m within in let b = mul-le-mul_right (10 ^ whole) (held_most d m) in omega (arith, a, b)

  pub to_order : AreBoundsToOrder whole system slice.target slice.events list most bounds
  to_order =
      record {
        bound = record {
          lower = λ d m within. subst (λ (n : ℕ). parts bounds.lower * d ^ n ≤ times n d m (holds_under system slice.target) * 10 ^ whole) all (lower d m within);
          upper = λ d m within. subst (λ (n : ℕ). times n d m (holds_under system slice.target) * 10 ^ whole ≤ parts bounds.upper * d ^ n) all (upper d m within);
          most = near.most;
        };
        condition = covers family;
        short = of_short system slice.target most family exact;
        near = near;
      }

-- what is told where there are bounds, and where there are none
module _ (whole : ℕ) (system : System) (slice : Slice) (is : IsSlice system slice.target slice) (list : List Rate) (all : length list ≡ length system.events) (most : ℕ) (family : Family)
    (exact : HasMinimalCutSets system slice.target (Some most) family) where
  pub told : (result : Result (Option Bounds) AllocError) → IfOk result (λ found. IfSome found (AreOrderBounds whole list family most slice.events))
      → IfOk result (λ found. IfNone found (IsLeftOut (length list) most_cases family most slice.events)) → IfOk result (AreToldToOrder whole system slice.target slice.events list most)
  told (Ok (Some bounds)) near out = to_order whole system slice is list all most family exact bounds near
  told (Ok None) near out = record {
    condition = covers family;
    short = of_short system slice.target most family exact;
    more = more_left system slice.target most family exact (length list) all slice.events (subst (λ (n : ℕ). RisesWithin 0 n slice.events) (sym all) is.events_rise) out;
  }
  told (Err e) near out = tt
