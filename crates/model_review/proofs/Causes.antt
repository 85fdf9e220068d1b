-- The events and the facts of all that covers a fact of a model, and how they make it hold.
use Rattle.std.proofs.Common.{ℕ, ◌≡◌, Bool, true, false, cond, ◌||◌, List, [], ◌∷◌, ◌++◌, flat_map, map, slice_get, Option, Some, None, option_map, option_to_list, append-nil, ap, ◌∙◌, sym, refl}
use Rattle.std.specs.List.{list_any}
use Rattle.std.specs.Option.{option_map_or}
use Rattle.std.proofs.lemmas.List.Folds.{list_any-append}
use Rattle.std.proofs.lemmas.Option.{none-some, same_Some, slice_get-map}
use Rattle.propagation_points.specs.States.{held_numbers}
use Rattle.propagation_points.specs.declared.held.Held.{Held}
use Rattle.propagation_points.specs.declared.held.Held.TheVariants as held
use Rattle.error_flows.specs.declared.meaning.FlowMeaning.{FlowMeaning}
use Rattle.error_flows.specs.declared.meaning.FlowMeaning.TheVariants as flow
use Rattle.propagation_links.specs.declared.link.PointAt.{PointAt}
use Rattle.model_facts.specs.Facts.{event_in, event_number, fact_in, fact_number, outward_of}
use Rattle.model_facts.specs.declared.keys.EventKind.TheVariants.{Source}
use Rattle.model_facts.specs.declared.keys.FactKey.{FactKey}
use Rattle.model_facts.specs.declared.keys.FactKind.{FactKind}
use Rattle.model_facts.specs.declared.keys.FactKind.TheVariants.{Enters, Exits, State}
use Rattle.fault_system.specs.Systems.{IsFact}
use Rattle.fault_system.specs.Truth.{NumberSet, truth}
use Rattle.fault_system.specs.declared.formula.FactInfo.{FactInfo}
use Rattle.fault_system.specs.declared.formula.Formula.{Formula}
use Rattle.fault_system.specs.declared.formula.Formula.TheVariants.{Event, Fact, Or}
use Rattle.fact_formulas.specs.Facts.{exit_formula, fact_at, kind_formula, linked_formula, linked_from, perhaps_at, some_of}
use Rattle.fact_formulas.specs.Flat.{fact_info, system_by}
use Rattle.fact_formulas.specs.Formulas.{FlowAt, all_flow_formulas, covers_type, emission_formulas, emissions_at, flow_formula, flow_formulas, flows_at, held_formula}
use Rattle.fact_formulas.specs.Numbered.{Numbered, Site, own_fact, reached_inward, site_of}
use Rattle.system_review.specs.inner.Alone.{Joins}
use Rattle.model_review.specs.inner.Joined.{joined_by, joined_exit, joined_formula, joined_info}
use Rattle.fault_system.proofs.TruthLaws.{truth-Event, truth-Fact, truth-Or}
use Rattle.model_review.proofs.Parts.{any-given, any-map}

-- ---- the events and the facts

-- the number of a fact of a component, if it is there
abbrev pub own_number : Site → FactKind → List ℕ
own_number site kind = option_to_list (fact_number site.numbered.facts (fact_in site.owner kind))

-- the event of a flow of this place
abbrev pub flow_events : Site → ℕ → FlowMeaning → List ℕ
flow_events site number (flow.Event name reached) = option_to_list (event_number site.numbered.events (event_in site.owner (Source number)))
flow_events site number (flow.State state reached) = []
flow_events site number (flow.Carry start end) = []
flow_events site number (flow.Change start end types) = []

-- the facts of a flow for a type that it covers: its states, or the types that enter where it begins
abbrev pub flow_facts : Site → ℕ → FlowMeaning → List ℕ
flow_facts site type (flow.Event name reached) = []
flow_facts site type (flow.State state reached) = flat_map (λ number. own_number site (State number)) (held_numbers state)
flow_facts site type (flow.Carry start end) = own_number site (Enters start.point type)
flow_facts site type (flow.Change start end types) = flat_map (λ other. own_number site (Enters start.point other)) (reached_inward site start)

-- the same of a flow that covers a type, and none of another one
abbrev pub covering_events : Site → ℕ → FlowAt → List ℕ
covering_events site type at = cond (covers_type site type at.flow) (flow_events site at.number at.flow) []

abbrev pub covering_facts : Site → ℕ → FlowAt → List ℕ
covering_facts site type at = cond (covers_type site type at.flow) (flow_facts site type at.flow) []

-- the facts of links into a side: that the type is at a side from which one leads there
abbrev pub linked_facts : Numbered → ℕ → PointAt → List ℕ
linked_facts numbered type side = flat_map (λ from. option_to_list (fact_number numbered.facts (fact_at type from))) (linked_from side numbered.assembly.links)

-- the events of all that covers a type that exits at a point
abbrev pub exit_events : Site → ℕ → ℕ → List ℕ
exit_events site point type = flat_map (covering_events site type) (flows_at point site.model.flows)

-- the facts of it
abbrev pub exit_facts : Site → ℕ → ℕ → List ℕ
exit_facts site point type = flat_map (covering_facts site type) (flows_at point site.model.flows) ++ linked_facts site.numbered type (outward_of site.owner point)

abbrev pub kind_events : Site → FactKind → List ℕ
kind_events site (State state) = []
kind_events site (Enters point type) = []
kind_events site (Exits point type) = exit_events site point type

abbrev pub kind_facts : Site → FactKind → List ℕ
kind_facts site (State state) = []
kind_facts site (Enters point type) = []
kind_facts site (Exits point type) = exit_facts site point type

-- the events of all that covers a fact
abbrev pub fact_events : Numbered → FactKey → List ℕ
fact_events numbered fact = kind_events (site_of numbered fact.owner) fact.kind

-- the facts of it
abbrev pub fact_facts : Numbered → FactKey → List ℕ
fact_facts numbered fact = kind_facts (site_of numbered fact.owner) fact.kind

-- those of the fact of a number
abbrev pub events_at : Numbered → ℕ → List ℕ
events_at numbered n = option_map_or (fact_events numbered) (slice_get numbered.facts n) []

abbrev pub facts_at : Numbered → ℕ → List ℕ
facts_at numbered n = option_map_or (fact_facts numbered) (slice_get numbered.facts n) []

-- ---- sums of tests

or-none : (a : Bool) → a || false ≡ a
or-none true = refl
or-none false = refl

or-assoc : (a b c : Bool) → (a || b) || c ≡ a || (b || c)
or-assoc true b c = refl
or-assoc false b c = refl

or-mixed : (a b c d : Bool) → (a || b) || (c || d) ≡ (a || c) || (b || d)
or-mixed true b c d = refl
or-mixed false true true d = refl
or-mixed false true false d = refl
or-mixed false false c d = refl

or-twice : (a b : Bool) → a || (b || false) ≡ a || (a || b)
or-twice true b = refl
or-twice false true = refl
or-twice false false = refl

or-self : (a : Bool) → a || false ≡ a || a
or-self true = refl
or-self false = refl

-- ---- when formulas are true

module _ (events facts : NumberSet) where
  abbrev holds : Formula → Bool
  holds = truth events facts

  any-true : (parts : List Formula) → holds (Or parts) ≡ list_any holds parts
  any-true parts = truth-Or events facts parts ∙ any-map (λ b. b) holds parts

  fact-true : (number : Option ℕ) → holds (option_map_or Fact number (Or [])) ≡ list_any facts (option_to_list number)
  fact-true None = truth-Or events facts []
  fact-true (Some n) = truth-Fact events facts n ∙ sym (or-none (facts n))

  event-true : (number : Option ℕ) → holds (option_map_or Event number (Or [])) ≡ list_any events (option_to_list number)
  event-true None = truth-Or events facts []
  event-true (Some n) = truth-Event events facts n ∙ sym (or-none (events n))

  some-true : (site : Site) (kind : ℕ → FactKind) (ns : List ℕ) → holds (Or (map (λ n. own_fact site (kind n)) ns)) ≡ list_any facts (flat_map (λ n. own_number site (kind n)) ns)
  some-true site kind ns =
      any-true (map (λ n. own_fact site (kind n)) ns)
      ∙ any-map holds (λ n. own_fact site (kind n)) ns
      ∙ (λ i. list_any (λ n. fact-true (fact_number site.numbered.facts (fact_in site.owner (kind n))) i) ns)
      ∙ sym (any-given (λ n. own_number site (kind n)) facts ns)

  held-true : (site : Site) (state : Held) → holds (held_formula site state) ≡ list_any facts (flat_map (λ n. own_number site (State n)) (held_numbers state))
  held-true site (held.One n) = fact-true (fact_number site.numbered.facts (fact_in site.owner (State n))) ∙ ap (list_any facts) (sym (append-nil (own_number site (State n))))
  held-true site (held.Any ns) = some-true site State ns

  -- a flow
  flow-true : (site : Site) (type number : ℕ) (meaning : FlowMeaning) → holds (flow_formula site type number meaning) ≡ (list_any events (flow_events site number meaning) || list_any facts (flow_facts site type meaning))
  flow-true site type number (flow.Event name reached) =
      event-true (event_number site.numbered.events (event_in site.owner (Source number)))
      ∙ sym (or-none (list_any events (option_to_list (event_number site.numbered.events (event_in site.owner (Source number))))))
  flow-true site type number (flow.State state reached) = held-true site state
  flow-true site type number (flow.Carry start end) = fact-true (fact_number site.numbered.facts (fact_in site.owner (Enters start.point type)))
  flow-true site type number (flow.Change start end types) = some-true site (Enters start.point) (reached_inward site start)

  covering-true : (site : Site) (type : ℕ) (at : FlowAt) → list_any holds (flow_formulas site type at.number at.flow) ≡ (list_any events (covering_events site type at) || list_any facts (covering_facts site type at))
  covering-true site type at = by (covers_type site type at.flow)
    where
      by : (b : Bool) → list_any holds (cond b (flow_formula site type at.number at.flow ∷ []) []) ≡ (list_any events (cond b (flow_events site at.number at.flow) []) || list_any facts (cond b (flow_facts site type at.flow) []))
      by true = or-none (holds (flow_formula site type at.number at.flow)) ∙ flow-true site type at.number at.flow
      by false = refl

  flows-true : (site : Site) (type : ℕ) (flows : List FlowAt) → list_any holds (all_flow_formulas site type flows) ≡ (list_any events (flat_map (covering_events site type) flows) || list_any facts (flat_map (covering_facts site type) flows))
  flows-true site type [] = refl
  flows-true site type (at ∷ flows) =
      list_any-append holds (flow_formulas site type at.number at.flow) (all_flow_formulas site type flows)
      ∙ (λ i. covering-true site type at i || flows-true site type flows i)
      ∙ or-mixed (list_any events (covering_events site type at)) (list_any facts (covering_facts site type at)) (list_any events (flat_map (covering_events site type) flows)) (list_any facts (flat_map (covering_facts site type) flows))
      ∙ sym (λ i. list_any-append events (covering_events site type at) (flat_map (covering_events site type) flows) i || list_any-append facts (covering_facts site type at) (flat_map (covering_facts site type) flows) i)

  -- links
  perhaps-true : (number : Option ℕ) → list_any holds (option_to_list (option_map Fact number)) ≡ list_any facts (option_to_list number)
  perhaps-true None = refl
  perhaps-true (Some n) = ap (λ b. b || false) (truth-Fact events facts n)

  links-true : (numbered : Numbered) (type : ℕ) (side : PointAt) → holds (linked_formula numbered type side) ≡ list_any facts (linked_facts numbered type side)
  links-true numbered type side =
      let sides : List PointAt = linked_from side numbered.assembly.links in
      any-true (flat_map (perhaps_at numbered type) sides)
      ∙ any-given (perhaps_at numbered type) holds sides
      ∙ (λ i. list_any (λ from. perhaps-true (fact_number numbered.facts (fact_at type from)) i) sides)
      ∙ sym (any-given (λ from. option_to_list (fact_number numbered.facts (fact_at type from))) facts sides)

  -- all of three tiers, and what the order of the tiers leaves
  tiers-true : (upper lower : List Formula) (last : Formula) → list_any holds (upper ++ (lower ++ last ∷ [])) ≡ (holds (some_of upper (some_of lower last)) || (list_any holds lower || holds last))
  tiers-true [] [] last = or-self (holds last)
  tiers-true [] (formula ∷ formulas) last =
      list_any-append holds (formula ∷ formulas) (last ∷ [])
      ∙ or-twice (list_any holds (formula ∷ formulas)) (holds last)
      ∙ ap (λ b. b || (list_any holds (formula ∷ formulas) || holds last)) (sym (any-true (formula ∷ formulas)))
  tiers-true (formula ∷ formulas) lower last =
      list_any-append holds (formula ∷ formulas) (lower ++ last ∷ [])
      ∙ (λ i. sym (any-true (formula ∷ formulas)) i || (list_any-append holds lower (last ∷ []) ∙ ap (λ b. list_any holds lower || b) (or-none (holds last))) i)

  exit-true : (site : Site) (point type : ℕ) → holds (joined_exit site point type) ≡ (holds (exit_formula site point type) || (list_any events (exit_events site point type) || list_any facts (exit_facts site point type)))
  exit-true site point type =
      let upper : List Formula = emission_formulas site type (emissions_at point site.model.behavior.emissions) in
      let flows : List FlowAt = flows_at point site.model.flows in
      let lower : List Formula = all_flow_formulas site type (flows_at point site.model.flows) in
      let last : Formula = linked_formula site.numbered type (outward_of site.owner point) in
      let sides : List ℕ = linked_facts site.numbered type (outward_of site.owner point) in
      any-true (upper ++ (lower ++ last ∷ []))
      ∙ tiers-true upper lower last
      ∙ ap (λ b. holds (exit_formula site point type) || b)
      ((λ i. flows-true site type flows i || links-true site.numbered type (outward_of site.owner point) i)
      ∙ or-assoc (list_any events (exit_events site point type)) (list_any facts (flat_map (covering_facts site type) flows)) (list_any facts sides)
      ∙ ap (λ b. list_any events (exit_events site point type) || b) (sym (list_any-append facts (flat_map (covering_facts site type) flows) sides)))

  kind-true : (site : Site) (kind : FactKind) → holds (joined_formula site kind) ≡ (holds (kind_formula site kind) || (list_any events (kind_events site kind) || list_any facts (kind_facts site kind)))
  kind-true site (State state) = sym (or-none (holds (kind_formula site (State state))))
  kind-true site (Enters point type) = sym (or-none (holds (kind_formula site (Enters point type))))
  kind-true site (Exits point type) = exit-true site point type

-- ---- the two systems of a model

-- The joined system of a model has these events and facts beside what its system says.
pub joined-joins : (numbered : Numbered) → Joins (system_by numbered) (joined_by numbered) (events_at numbered) (facts_at numbered)
joined-joins numbered n whole at = by (slice_get numbered.facts n) refl
  where
    by : (found : Option FactKey) → slice_get numbered.facts n ≡ found
        → (fact : FactInfo) × IsFact (system_by numbered) n fact × ((events facts : NumberSet)
        → truth events facts whole.formula ≡ (truth events facts fact.formula || (list_any events (events_at numbered n) || list_any facts (facts_at numbered n))))
    by None is = absurd (none-some whole (sym (ap (option_map (joined_info numbered)) is) ∙ sym (slice_get-map (joined_info numbered) numbered.facts n) ∙ at))
    by (Some key) is =
        let same : joined_info numbered key ≡ whole = same_Some (joined_info numbered key) whole (sym (ap (option_map (joined_info numbered)) is) ∙ sym (slice_get-map (joined_info numbered) numbered.facts n) ∙ at) in (
          fact_info numbered key,
          slice_get-map (fact_info numbered) numbered.facts n ∙ ap (option_map (fact_info numbered)) is,
          (λ events facts.
              ap (λ (w : FactInfo). truth events facts w.formula) (sym same)
              ∙ kind-true events facts (site_of numbered key.owner) key.kind
              ∙ ap (λ (found : Option FactKey). truth events facts (kind_formula (site_of numbered key.owner) key.kind) || (list_any events (option_map_or (fact_events numbered) found []) || list_any facts (option_map_or (fact_facts numbered) found []))) (sym is)),
        )
