use Rattle.std.proofs.Common.{◌≡◌, All, replicate}
use Rattle.aadl_syntax.specs.Form.{IsNumber}
use Rattle.property_reader.specs.Rates.{conservative_rate}
use Rattle.property_reader.proofs.rate.conservative_rates.Given as goal

abbrev pub invariant-loop : goal.invariant-loop
invariant-loop l = record {
  rates : l.rates ≡ replicate l.counter conservative_rate;
  numbers : All (λ rate. IsNumber rate.text) l.rates;
}
