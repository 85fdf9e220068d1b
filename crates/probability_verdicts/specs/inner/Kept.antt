-- What a requirement over a probability says of a target, and not of bounds.
use Rattle.std.specs.Prelude.{ℕ, ◌*◌, ◌^◌, ◌≤◌, ◌≡◌, List, Some, length}
use Rattle.fault_system.specs.Systems.{System}
use Rattle.property_reader.specs.declared.rate.Rate.{Rate}
use Rattle.decimals.specs.Numerals.{Number, number_of}
use Rattle.probabilities.specs.Rates.{IsWithin}
use Rattle.probabilities.specs.Decided.{rates_of}
use Rattle.event_probabilities.specs.declared.rating.EventRate.{EventRate}
use Rattle.target_probabilities.specs.Probability.{AreKnown, bounds_known, times_held}

-- The text is a number, and of each event this is known from its rate and the hours; whatever the probabilities of the events are within
-- that, m e times out of d for an event e, the target holds so many times out of d ^ n, where the system has n events, that it is at most as
-- probable as the number.
pub record IsKeptProbability (system : System) (rates : List Rate) (target : ℕ) (most hours : List ℕ) : Type 0 where
  pub number : Number
  pub read : number_of most ≡ Some number
  pub whole : ℕ
  pub known : List EventRate
  pub are_known : AreKnown whole system rates (Some hours) known
  pub kept : (d : ℕ) (m : ℕ → ℕ) → IsWithin (10 ^ whole) (rates_of whole (bounds_known known)) d m
      → times_held system target d m * 10 ^ number.lowered ≤ number.digits * 10 ^ number.raised * d ^ length system.events
