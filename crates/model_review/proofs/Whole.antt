-- What is seen of a model is all that there is.
use Rattle.std.proofs.Common.{◌≡◌, ℕ, List, ap, ◌∙◌}
use Rattle.fault_system.specs.Systems.{System}
use Rattle.model_facts.specs.Assembly.{Assembly, universe_of}
use Rattle.model_facts.specs.Effects.{effects_of}
use Rattle.model_facts.specs.Facts.{events_of, facts_of}
use Rattle.model_facts.specs.declared.keys.EventKey.{EventKey}
use Rattle.model_facts.specs.declared.keys.FactKey.{FactKey}
use Rattle.fact_formulas.specs.Flat.{system_of}
use Rattle.model_review.specs.Seen.{seen_of}

-- what is seen of it
pub all-seen : (assembly : Assembly) (universe : List ℕ) (facts : List FactKey) (events : List EventKey) (system : System) (effects : List ℕ)
    → universe ≡ universe_of assembly → facts ≡ facts_of assembly universe → events ≡ events_of assembly → system ≡ system_of assembly → effects ≡ effects_of assembly
    → record { numbered = record { assembly = assembly; universe = universe; facts = facts; events = events }; system = system; effects = effects } ≡ seen_of assembly
all-seen assembly universe facts events system effects all named happen its are =
    let facts_are : facts ≡ facts_of assembly (universe_of assembly) = named ∙ ap (facts_of assembly) all in
    λ i. record { numbered = record { assembly = assembly; universe = all i; facts = facts_are i; events = happen i }; system = its i; effects = are i }
