-- What the rate of an event says of its probability.
use Rattle.std.specs.Prelude.{ℕ, ◌+◌, ◌-◌, ◌*◌, ◌^◌, ◌<◌, ◌≤◌, ◌≡◌, ◌⊎◌, Option, None, Some}
use Rattle.decimals.specs.Decimals.{parts, HasPlaces, number_parts, decimal_parts}
use Rattle.decimals.specs.Numerals.{Number}
use Rattle.exponentials.specs.Exponentials.{IsAtLeastChance, IsAtMostChance}
use Rattle.exponentials.specs.Widths.{chance_places, chance_units}
use Rattle.probabilities.specs.declared.rates.Rate.{Rate}
use Rattle.probabilities.specs.Sharp.{IsSharpRate}
use Rattle.probabilities.specs.Widths.{IsNarrowRate}
use Rattle.property_reader.specs.declared.rate.RateKind.{RateKind}
use Rattle.property_reader.specs.declared.rate.RateKind.TheVariants.{Lambda, Prob}
use Rattle.event_probabilities.specs.declared.finding.Found.{Found}
use Rattle.event_probabilities.specs.declared.finding.Found.TheVariants.{Rated, WithoutRate, WithoutHours, NoProbability}

-- a number is a probability: no more than 1
abbrev pub IsProbability : Number → Type 0
IsProbability number = number.digits * 10 ^ number.raised ≤ 10 ^ number.lowered

-- the rate of an event of this probability
pub record IsProbabilityRate (whole : ℕ) (number : Number) (rate : Rate) : Type 0 where
  pub probability : IsProbability number
  pub low : decimal_parts number rate.low ≤ number_parts whole number
  pub high : number_parts whole number ≤ decimal_parts number rate.high

-- lambda times hours is the first of these out of the second
abbrev pub over : Number → Number → ℕ
over lambda hours = lambda.digits * 10 ^ lambda.raised * (hours.digits * 10 ^ hours.raised)

abbrev pub under : Number → Number → ℕ
under lambda hours = 10 ^ lambda.lowered * 10 ^ hours.lowered

-- The rate of an event that fails so often an hour, within so many hours: it bounds 1 - e^(-x), where x is the product, halved so often
-- that it is 1 at most, or nothing is said.
pub record IsLambdaRate (whole : ℕ) (lambda hours : Number) (rate : Rate) : Type 0 where
  pub halvings : ℕ
  pub low : (d m : ℕ) → IsAtLeastChance (over lambda hours) (under lambda hours * 2 ^ halvings) d m
      → parts rate.low * d ^ (2 ^ halvings) ≤ (d ^ (2 ^ halvings) - (d - m) ^ (2 ^ halvings)) * 10 ^ whole
  pub high : (d m : ℕ) → IsAtMostChance (over lambda hours) (under lambda hours * 2 ^ halvings) d m
      → (d ^ (2 ^ halvings) - (d - m) ^ (2 ^ halvings)) * 10 ^ whole ≤ parts rate.high * d ^ (2 ^ halvings)
  pub enough : (over lambda hours ≤ under lambda hours * 2 ^ halvings) ⊎ ((parts rate.low ≡ 0) × (parts rate.high ≡ 10 ^ whole))

-- nothing is known of an event
abbrev pub IsUnknown : ℕ → Rate → Type 0
IsUnknown whole rate = (parts rate.low ≡ 0) × (parts rate.high ≡ 10 ^ whole)

-- the rate of an event is what its number and the hours say
abbrev pub IsRated : ℕ → RateKind → Option Number → Option Number → Rate → Type 0
IsRated whole kind None hours rate = ⊥
IsRated whole Prob (Some number) hours rate = IsProbabilityRate whole number rate
IsRated whole Lambda (Some number) None rate = ⊥
IsRated whole Lambda (Some number) (Some hours) rate = IsLambdaRate whole number hours rate

-- A number is more than 1, where it has 18 digits at most; one of more digits is, or lacks less than one in the 17th digit. Both are said
-- where the whole has room for its places.
pub record IsAboveOne (whole : ℕ) (number : Number) : Type 0 where
  pub exact : number.digits ≤ 999999999999999999 → number.lowered ≤ number.raised + whole → 10 ^ number.lowered < number.digits * 10 ^ number.raised
  pub near : number.lowered ≤ number.raised + whole → 10 ^ number.lowered * 100000000000000000 < number.digits * 10 ^ number.raised * 100000000000000001

-- a text is no number that is read, or is no probability, since it is above 1
abbrev pub IsNoProbability : ℕ → RateKind → Option Number → Type 0
IsNoProbability whole kind None = Unit {0}
IsNoProbability whole Prob (Some number) = IsAboveOne whole number
IsNoProbability whole Lambda (Some number) = ⊥

-- What is found of an event whose rate is of this kind, with this number, if it is one, within so many hours, if these are given.
abbrev pub IsFound : ℕ → RateKind → Option Number → Option Number → Found → Rate → Type 0
IsFound whole kind number hours Rated rate = IsRated whole kind number hours rate
IsFound whole kind number hours WithoutRate rate = ⊥
IsFound whole kind number hours WithoutHours rate = IsUnknown whole rate × ((kind ≡ Lambda) × (hours ≡ None))
IsFound whole kind number hours NoProbability rate = IsUnknown whole rate × IsNoProbability whole kind number

-- a number is less than 1 with a hundred zeros
abbrev pub IsModest : Number → Type 0
IsModest number = number.digits * 10 ^ number.raised ≤ 10 ^ number.lowered * 10 ^ 100

-- lambda times hours is nine tenths at most
abbrev pub IsSmallExposure : Number → Number → Type 0
IsSmallExposure lambda hours = over lambda hours * 10 ≤ under lambda hours * 9

-- Where the whole has room for the places of a probability, its rate is narrow; with 18 digits at most it is exact.
pub record IsNarrowProbability (whole : ℕ) (number : Number) (rate : Rate) : Type 0 where
  pub exact : number.digits ≤ 999999999999999999 → number.lowered ≤ number.raised + whole
      → (decimal_parts number rate.low ≡ number_parts whole number) × (decimal_parts number rate.high ≡ number_parts whole number)
  pub narrow : (places units : ℕ) → 36 ≤ places → 2 ≤ units → number.lowered ≤ places → places ≤ whole → IsNarrowRate whole places units rate

-- Where the whole has room for the places of 1 - e^(-x), and x, lambda times hours, is nine tenths at most, the rate is narrow.
abbrev pub IsNarrowLambda : ℕ → Number → Number → Rate → Type 0
IsNarrowLambda whole lambda hours rate =
    (places units : ℕ) → lambda.lowered + hours.lowered ≤ places → chance_places places ≤ whole → chance_units 6 ≤ units → IsModest lambda → IsModest hours → IsSmallExposure lambda hours
    → IsNarrowRate whole (chance_places places) units rate

-- the rate of an event is as narrow as its number and the hours let it be
abbrev pub IsNarrowRated : ℕ → RateKind → Number → Option Number → Rate → Type 0
IsNarrowRated whole Prob number hours rate = IsNarrowProbability whole number rate
IsNarrowRated whole Lambda number None rate = Unit {0}
IsNarrowRated whole Lambda number (Some hours) rate = IsNarrowLambda whole number hours rate

abbrev pub IsNarrowFound : ℕ → RateKind → Option Number → Option Number → Found → Rate → Type 0
IsNarrowFound whole kind None hours Rated rate = Unit {0}
IsNarrowFound whole kind (Some number) hours Rated rate = IsNarrowRated whole kind number hours rate
IsNarrowFound whole kind number hours WithoutRate rate = Unit {0}
IsNarrowFound whole kind number hours WithoutHours rate = Unit {0}
IsNarrowFound whole kind number hours NoProbability rate = Unit {0}

-- what is said of the absence of an event is what is left by the two bounds of its probability, where these have not more places
abbrev pub IsSharpWhereShort : ℕ → Rate → Type 0
IsSharpWhereShort whole rate = (places : ℕ) → 36 ≤ places → HasPlaces whole places rate.low → HasPlaces whole places rate.high → IsSharpRate whole places rate
