-- What is read of a number, as a rate.
use Rattle.std.proofs.Common.{ℕ, ◌+◌, ◌*◌, ◌^◌, ◌≤◌, ◌<◌, ◌≡◌, ap, min, inl, inr, arith}
use Rattle.std.specs.Prelude.{Option, None, Some, IfSome, ◌⊎◌}
use Rattle.std.proofs.lemmas.Bool.{cases_lt}
use Rattle.std.proofs.Math.Nat.{mul-le-mul_right, one-le-pow, le_of_mul-le-mul_left}
use Rattle.std.proofs.lemmas.Nat.{pow-add}
use Rattle.decimals.specs.declared.decimal.Decimal.{Decimal}
use Rattle.decimals.specs.declared.numeral.Numeral.{Numeral}
use Rattle.decimals.specs.Decimals.{parts}
use Rattle.decimals.specs.Numerals.{Number}
use Rattle.decimals.specs.Decimals.{number_parts, decimal_parts}
use Rattle.decimals.specs.inner.Decimals.{IsNear}
use Rattle.decimals.specs.inner.Figures.{IsRead, IsReadAs}
use Rattle.property_reader.specs.declared.rate.RateKind.{RateKind}
use Rattle.property_reader.specs.declared.rate.RateKind.TheVariants.{Prob}
use Rattle.probabilities.specs.declared.rates.Rate.{Rate}
use Rattle.event_probabilities.specs.declared.finding.Found.{Found}
use Rattle.event_probabilities.specs.declared.finding.Found.TheVariants.{NoProbability}
use Rattle.event_probabilities.specs.EventRates.{IsAboveOne, IsProbabilityRate, IsUnknown, IsFound}

pub ten_pos : (k : ℕ) → 0 < 10 ^ k
ten_pos k = let h = one-le-pow k 10 (omega arith) in omega arith

-- so many parts of the whole are those of a number
pub parts_split : (n r w : ℕ) → n * 10 ^ (r + w) ≡ n * 10 ^ r * 10 ^ w
parts_split n r w = let h : n * 10 ^ (r + w) ≡ n * (10 ^ r * 10 ^ w) = ap (λ k. n * k) (pow-add 10 r w) in omega arith

within : (n r l w p : ℕ) → n * 10 ^ (r + w) ≤ p * 10 ^ l → p ≤ 10 ^ w → n * 10 ^ r ≤ 10 ^ l
within n r l w p above part =
    let e = parts_split n r w in
    let h : p * 10 ^ l ≤ 10 ^ w * 10 ^ l = mul-le-mul_right (10 ^ l) part in
    le_of_mul-le-mul_left {k = 10 ^ w} (omega arith) (ten_pos w)

-- a number whose bounds lie within the whole
pub rate_read : (whole : ℕ) (number : Number) (low high held : Decimal) (rate : Rate) → decimal_parts number low ≤ number_parts whole number → number_parts whole number ≤ decimal_parts number high
    → parts high ≤ 10 ^ whole → parts held ≡ min (parts low) (10 ^ whole) → rate.low ≡ held → rate.high ≡ high → IsProbabilityRate whole number rate
rate_read whole number low high held rate below above part is el eh =
    let less : parts held * 10 ^ number.lowered ≤ parts low * 10 ^ number.lowered = mul-le-mul_right (10 ^ number.lowered) (omega arith) in
    record {
      probability = within number.digits number.raised number.lowered whole (parts high) above part;
      low = rw el (omega arith);
      high = rw eh above;
    }

less_than : (w a b : ℕ) → 10 ^ w * a < b * 10 ^ w → a < b
less_than w a b h = at (cases_lt a b)
  where
    at : (a < b) ⊎ (b ≤ a) → a < b
    at (inl less) = less
    at (inr over) = let g : b * 10 ^ w ≤ a * 10 ^ w = mul-le-mul_right (10 ^ w) over in absurd (omega arith)

-- a number of few digits whose upper bound is above the whole
pub above_read : (whole : ℕ) (number : Number) (high : Decimal) → decimal_parts number high ≡ number_parts whole number → 10 ^ whole < parts high → 10 ^ number.lowered < number.digits * 10 ^ number.raised
above_read whole number high same above =
    let e = parts_split number.digits number.raised whole in
    let more : 10 ^ whole + 1 ≤ parts high = omega (arith, above) in
    let h : (10 ^ whole + 1) * 10 ^ number.lowered ≤ parts high * 10 ^ number.lowered = mul-le-mul_right (10 ^ number.lowered) more in
    let p = ten_pos number.lowered in
    less_than whole (10 ^ number.lowered) (number.digits * 10 ^ number.raised) (omega arith)

pub above_found : (whole : ℕ) (number : Number) (high : Decimal) (result : Option Decimal) → result ≡ Some high → IfSome result (λ x. decimal_parts number x ≡ number_parts whole number) → 10 ^ whole < parts high
    → 10 ^ number.lowered < number.digits * 10 ^ number.raised
above_found whole number high result is same above = above_read whole number high (rw is at same) above

-- and one of more digits, which is near its upper bound
pub above_near : (whole : ℕ) (number : Number) (high : Decimal) → IsNear (decimal_parts number high) (number_parts whole number) → 10 ^ whole < parts high
    → 10 ^ number.lowered * 100000000000000000 < number.digits * 10 ^ number.raised * 100000000000000001
above_near whole number high near above =
    let e = parts_split number.digits number.raised whole in
    let more : 10 ^ whole + 1 ≤ parts high = omega (arith, above) in
    let h : (10 ^ whole + 1) * 10 ^ number.lowered ≤ parts high * 10 ^ number.lowered = mul-le-mul_right (10 ^ number.lowered) more in
    let p = ten_pos number.lowered in
    less_than whole (10 ^ number.lowered * 100000000000000000) (number.digits * 10 ^ number.raised * 100000000000000001) (omega arith)

pub near_found : (whole : ℕ) (number : Number) (high : Decimal) (result : Option Decimal) → result ≡ Some high → IfSome result (λ x. IsNear (decimal_parts number x) (number_parts whole number)) → 10 ^ whole < parts high
    → 10 ^ number.lowered * 100000000000000000 < number.digits * 10 ^ number.raised * 100000000000000001
near_found whole number high result is near above = above_near whole number high (rw is at near) above

-- nothing is known of a number that is no probability
pub unrated : (whole : ℕ) (number : Number) (hours : Option Number) (found : Found) (rate : Rate) → found ≡ NoProbability → IsUnknown whole rate
    → IsAboveOne whole number → IsFound whole Prob (Some number) hours found rate
unrated whole number hours found rate is unknown above = rw is (unknown, above)

-- a number that is more than any decimal
pub great_read : (whole : ℕ) (number : Number) → 10 ^ number.lowered * 10 ^ (whole + 1) ≤ number_parts whole number → 10 ^ number.lowered < number.digits * 10 ^ number.raised
great_read whole number great =
    let e = parts_split number.digits number.raised whole in
    let f : 10 ^ number.lowered * 10 ^ (whole + 1) ≡ 10 ^ number.lowered * (10 ^ whole * 10) = ap (λ k. 10 ^ number.lowered * k) (pow-add 10 whole 1) in
    let p = ten_pos number.lowered in
    let q = ten_pos whole in
    let r : 1 * 10 ^ whole ≤ 10 ^ number.lowered * 10 ^ whole = mul-le-mul_right (10 ^ whole) p in
    less_than whole (10 ^ number.lowered) (number.digits * 10 ^ number.raised) (omega arith)

pub great_near : (whole : ℕ) (number : Number) → 10 ^ number.lowered * 10 ^ (whole + 1) ≤ number_parts whole number
    → 10 ^ number.lowered * 100000000000000000 < number.digits * 10 ^ number.raised * 100000000000000001
great_near whole number great = let less = great_read whole number great in omega arith

pub great_above : (whole : ℕ) (number : Number) → 10 ^ number.lowered * 10 ^ (whole + 1) ≤ number_parts whole number → IsAboveOne whole number
great_above whole number great = record { exact = λ few fit. great_read whole number great; near = λ fit. great_near whole number great }

-- the number that a text is
pub found_of : (whole : ℕ) (kind : RateKind) (text : Option Number) (number : Numeral) (hours : Option Number) (found : Found) (rate : Rate) → IsReadAs text (Some number)
    → ((read : Number) → IsRead read number → IsFound whole kind (Some read) hours found rate) → IsFound whole kind text hours found rate
found_of whole kind None number hours found rate is each = absurd is
found_of whole kind (Some read) number hours found rate is each = each read is

pub no_number : (whole : ℕ) (kind : RateKind) (text hours : Option Number) (found : Found) (rate : Rate) → IsReadAs text None → found ≡ NoProbability → IsUnknown whole rate → IsFound whole kind text hours found rate
no_number whole kind None hours found rate is e unknown = rw e (unknown, tt)
no_number whole kind (Some read) hours found rate is e unknown = absurd is
