-- The formulas of facts: when a component is in a state, and when a type enters or exits at a point (EMV2).
use Rattle.std.specs.Prelude.{ℕ, Bool, true, false, cond, List, [], ◌∷◌, map, filter, flat_map, slice_index_or, option_map, option_to_list}
use Rattle.std.specs.Option.{option_map_or}
use Rattle.propagation_links.specs.declared.link.Link.{Link}
use Rattle.propagation_links.specs.declared.link.PointAt.{PointAt}
use Rattle.model_facts.specs.Facts.{event_in, event_number, fact_in, fact_number, inward_of, outward_of, same_side}
use Rattle.model_facts.specs.declared.keys.EventKind.TheVariants.{Arrival}
use Rattle.model_facts.specs.declared.keys.FactKey.{FactKey}
use Rattle.model_facts.specs.declared.keys.FactKind.{FactKind}
use Rattle.model_facts.specs.declared.keys.FactKind.TheVariants.{State, Enters, Exits}
use Rattle.fault_system.specs.declared.formula.Formula.{Formula}
use Rattle.fault_system.specs.declared.formula.Formula.TheVariants.{True, Event, Fact, Or}
use Rattle.fact_formulas.specs.Numbered.{Numbered, Site, site_of}
use Rattle.fact_formulas.specs.Formulas.{all_flow_formulas, cause_formula, conditions_to, emission_formulas, emissions_at, flows_at, step_formula, steps_to}

-- ---- links

-- the sides from which links lead into a side, in the order of the links
abbrev pub linked_from : PointAt → List Link → List PointAt
linked_from side links = map (λ link. link.from) (filter (λ link. same_side link.to side) links)

-- the fact that a type is at a side
abbrev pub fact_at : ℕ → PointAt → FactKey
fact_at type side = fact_in side.component (cond side.outward (Exits side.point type) (Enters side.point type))

-- that a type is at a side, if it may be there
abbrev pub perhaps_at : Numbered → ℕ → PointAt → List Formula
perhaps_at numbered type side = option_to_list (option_map Fact (fact_number numbered.facts (fact_at type side)))

-- That a type is at a side from which a link leads into this one.
abbrev pub linked_formula : Numbered → ℕ → PointAt → Formula
linked_formula numbered type side = Or (flat_map (perhaps_at numbered type) (linked_from side numbered.assembly.links))

-- ---- facts

-- When a component is in a state: always in an initial one; else, if it has clauses of composite states, where one of them says
-- so; and else where a transition leads there.
abbrev pub state_formula : Site → ℕ → Formula
state_formula site state =
    cond (slice_index_or site.model.states.always state false) True
    (cond site.model.is_composite (Or (map (cause_formula site) (conditions_to state site.model.composites)))
    (Or (map (step_formula site) (steps_to state site.model.behavior.steps))))

-- When a type enters at a point: with its external event, if it has one, and else along links.
abbrev pub enter_formula : Site → ℕ → ℕ → Formula
enter_formula site point type =
    option_map_or Event (event_number site.numbered.events (event_in site.owner (Arrival point type))) (linked_formula site.numbered type (inward_of site.owner point))

-- whether there are no formulas
abbrev pub is_empty : List Formula → Bool
is_empty [] = true
is_empty (formula ∷ formulas) = false

-- one of these, or what is said otherwise where there are none
abbrev pub some_of : List Formula → Formula → Formula
some_of formulas otherwise = cond (is_empty formulas) otherwise (Or formulas)

-- when a type exits at a point by no outgoing condition
abbrev pub flow_or_link : Site → ℕ → ℕ → Formula
flow_or_link site point type =
    some_of (all_flow_formulas site type (flows_at point site.model.flows)) (linked_formula site.numbered type (outward_of site.owner point))

-- When a type exits at a point: by the outgoing conditions that cover it; where there are none, by the flows that cover it; and
-- where there are none either, along links.
abbrev pub exit_formula : Site → ℕ → ℕ → Formula
exit_formula site point type =
    some_of (emission_formulas site type (emissions_at point site.model.behavior.emissions)) (flow_or_link site point type)

-- when a fact of a component holds
abbrev pub kind_formula : Site → FactKind → Formula
kind_formula site (State state) = state_formula site state
kind_formula site (Enters point type) = enter_formula site point type
kind_formula site (Exits point type) = exit_formula site point type

-- When a fact holds.
abbrev pub meaning_of : Numbered → FactKey → Formula
meaning_of numbered fact = kind_formula (site_of numbered fact.owner) fact.kind
