-- The rates of a tree are one for each event, and numbers as AADL writes them.
use Rattle.std.proofs.Common.{ℕ, zero, suc, ◌<◌, ◌≡◌, true, List, [], ◌∷◌, length, map, refl, ap, arith}
use Rattle.std.specs.Prelude.{slice_index_or}
use Rattle.std.specs.List.{AllByRecursion}
use Rattle.aadl_syntax.specs.Form.{IsNumber}
use Rattle.property_reader.specs.declared.rate.Rate.{Rate}
use Rattle.galileo_writer.specs.inner.TreeText.{AreRates}
use Rattle.galileo_reader.specs.TreeSystems.{event_info, system_of}
use Rattle.galileo_reader.specs.declared.tree.NamedEvent.{NamedEvent}
use Rattle.galileo_reader.specs.declared.tree.NamedTree.{NamedTree}
use Rattle.galileo_reader.specs.inner.Rates.{HasNumbers, IsNumberIn}
use Rattle.rate_numerals.specs.Rates.{in_numerals, rates_of}
use Rattle.rate_numerals.proofs.Kept.{numeral-is}

one-each : (events : List NamedEvent) → length (map (λ (event : NamedEvent). in_numerals event.rate) events) ≡ length (map event_info events)
one-each [] = refl
one-each (event ∷ events) = ap suc (one-each events)

each-number : (events : List NamedEvent) → AllByRecursion (λ (event : NamedEvent). IsNumberIn true event.rate.text) events → (k : ℕ) (d : Rate)
    → k < length (map (λ (event : NamedEvent). in_numerals event.rate) events) → IsNumber (slice_index_or (map (λ (event : NamedEvent). in_numerals event.rate) events) k d).text
each-number [] all k d within = absurd (omega (arith, within))
each-number (event ∷ events) all zero d within = numeral-is event.rate.text all.0
each-number (event ∷ events) all (suc k) d within = each-number events all.1 k d (omega (arith, within))

pub rates-are : (tree : NamedTree) → HasNumbers true tree → AreRates (system_of tree) (rates_of tree)
rates-are tree all = record { each = one-each tree.events; numbers = each-number tree.events all }
