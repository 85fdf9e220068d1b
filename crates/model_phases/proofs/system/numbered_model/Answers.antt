use Rattle.std.proofs.Common.{sym, subst}
use Rattle.std.specs.Prelude.{All}
use Rattle.std.proofs.lemmas.List.Elements.{All-map}
use Rattle.fault_system.specs.Systems.{System}
use Rattle.model_facts.specs.Laws.{IsPlain}
use Rattle.fact_formulas.specs.Flat.{event_info, fact_info}
use Rattle.fact_formulas.specs.Numbered.{numbered_of}
use Rattle.model_phases.proofs.system.numbered_model.Goals as goal

pub returns-clause-numbered : goal.returns-clause-numbered
returns-clause-numbered c =
    let numbered = numbered_of c.args.assembly.now in
    let facts = All-map (λ fact. IsPlain fact.name) (fact_info numbered) numbered.facts (λ k d lt. c.fact_names_are_plain.ensures c.args.assembly.now c.in_ok-are_named.ensures _) in
    let events = All-map (λ event. IsPlain event.name) (event_info c.args.assembly.now) numbered.events (λ k d lt. c.event_names_are_plain.ensures c.args.assembly.now c.in_ok-are_named.ensures _) in
    record {
      is = c.in_ok-made.ensures.made;
      plain = record {
        is_system = c.facts-facts.ensures.system;
        fact_names = subst (λ (s : System). All (λ fact. IsPlain fact.name) s.facts) (sym c.in_ok-made.ensures.made.system) facts;
        event_names = subst (λ (s : System). All (λ event. IsPlain event.name) s.events) (sym c.in_ok-made.ensures.made.system) events;
      };
    }
