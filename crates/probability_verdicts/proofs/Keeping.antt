-- From the upper bound to how often a target holds.
use Rattle.std.proofs.Common.{ℕ, ◌+◌, ◌*◌, ◌^◌, ◌≤◌, ◌<◌, ◌≡◌, ◌∙◌, List, [], length, Option, Some, None, refl, ap, subst, arith}
use Rattle.std.proofs.lemmas.Nat.{pow-add}
use Rattle.std.proofs.Math.Nat.{le_of_mul-le-mul_right, mul-le-mul_right, one-le-pow}
use Rattle.fault_system.specs.Systems.{System}
use Rattle.property_reader.specs.declared.rate.Rate.{Rate}
use Rattle.decimals.specs.Decimals.{parts}
use Rattle.decimals.specs.Numerals.{Number, number_of}
use Rattle.probabilities.specs.declared.rates.Bounds.{Bounds}
use Rattle.target_probabilities.specs.Probability.{AreTold, bounds_known, times_held}
use Rattle.probability_verdicts.specs.declared.verdict.ProbabilityVerdict.TheVariants.{Met}
use Rattle.probability_verdicts.specs.Verdicts.{IsBoundedSo, IsVerdictOfBounds, first_unrated}
use Rattle.probability_verdicts.specs.inner.Kept.{IsKeptProbability}

swapped : (a b c : ℕ) → a * b * c ≡ a * c * b
swapped a b c = omega arith

-- a share of a whole that is at most a bound, which is at most another share, is at most that
kept_share : (times whole bound all low number : ℕ) → 0 < whole → times * whole ≤ bound * all → bound * low ≤ number * whole → times * low ≤ number * all
kept_share times whole bound all low number some held small =
    let a : times * whole * low ≤ bound * all * low = mul-le-mul_right low held in
    let b : bound * low * all ≤ number * whole * all = mul-le-mul_right all small in
    let c : bound * all * low ≡ bound * low * all = swapped bound all low in
    let d : number * whole * all ≡ number * all * whole = swapped number whole all in
    let e : times * whole * low ≡ times * low * whole = swapped times whole low in
    let f : times * low * whole ≤ number * all * whole = omega (arith, a, b, c, d, e) in
    le_of_mul-le-mul_right f some

spread : (digits raised zeros : ℕ) → digits * 10 ^ (raised + zeros) ≡ digits * 10 ^ raised * 10 ^ zeros
spread digits raised zeros = let p = pow-add 10 raised zeros in ap (λ t. digits * t) p ∙ omega arith

pub met_kept : (system : System) (rates : List Rate) (target : ℕ) (events most hours : List ℕ) → IsBoundedSo system rates target events most hours Met → IsKeptProbability system rates target most hours
met_kept system rates target events most hours its = by its.bounds (number_of most) refl its.has.told its.verdict_is
  where
    by : (bounds : Option Bounds) (read : Option Number) → number_of most ≡ read → AreTold its.whole system target (bounds_known its.has.known) [] bounds its.importances
        → IsVerdictOfBounds its.whole read (first_unrated its.found events) bounds Met → IsKeptProbability system rates target most hours
    by None read same told met = absurd met
    by (Some bounds) None same told met = absurd met
    by (Some bounds) (Some number) same told met = record {
      number = number;
      read = same;
      whole = its.whole;
      known = its.has.known;
      are_known = its.has.are_known;
      kept = λ d m within.
          let some : 0 < 10 ^ its.whole = let h = one-le-pow its.whole 10 (omega arith) in omega arith in
          let wide : number.digits * 10 ^ (number.raised + its.whole) ≡ number.digits * 10 ^ number.raised * 10 ^ its.whole = spread number.digits number.raised its.whole in
          let small : parts bounds.upper * 10 ^ number.lowered ≤ number.digits * 10 ^ number.raised * 10 ^ its.whole = subst (λ (n : ℕ). parts bounds.upper * 10 ^ number.lowered ≤ n) wide met in
          kept_share (times_held system target d m) (10 ^ its.whole) (parts bounds.upper) (d ^ length system.events) (10 ^ number.lowered) (number.digits * 10 ^ number.raised) some (told.0.right.bound.upper d m within) small;
    }
