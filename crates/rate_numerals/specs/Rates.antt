-- The rates of the events of a tree, with numbers as AADL writes them.
use Rattle.std.specs.Prelude.{List, map}
use Rattle.property_reader.specs.declared.rate.Rate.{Rate}
use Rattle.galileo_reader.specs.declared.tree.NamedTree.{NamedTree}
use Rattle.rate_numerals.specs.Numerals.{numeral}

-- a rate of such a number
abbrev pub in_numerals : Rate → Rate
in_numerals rate = record { kind = rate.kind; text = numeral rate.text }

-- the rates of the events of a tree
abbrev pub rates_of : NamedTree → List Rate
rates_of tree = map (λ event. in_numerals event.rate) tree.events
