-- Each number in the formulas of a model is that of one of its facts, or of one of its events.
use Rattle.std.proofs.Common.{◌≡◌, ℕ, ◌<◌, ◌&&◌, Bool, true, false, cond, List, [], ◌∷◌, ◌++◌, length, map, flat_map, option_map, option_to_list, Option, Some, None, refl, sym, ap, ◌∙◌, subst}
use Rattle.std.specs.Option.{option_map_or}
use Rattle.std.specs.List.{list_all}
use Rattle.std.proofs.lemmas.Bool.{lt-ltb}
use Rattle.std.proofs.lemmas.List.Quantifiers.{position-Some}
use Rattle.propagation_points.specs.declared.held.Held.{Held}
use Rattle.propagation_points.specs.declared.held.Held.TheVariants as held
use Rattle.propagation_points.specs.declared.uses.ReachedPoint.{ReachedPoint}
use Rattle.error_flows.specs.declared.meaning.FlowMeaning.{FlowMeaning}
use Rattle.error_flows.specs.declared.meaning.FlowMeaning.TheVariants as flow
use Rattle.error_conditions.specs.declared.cause.Cause.{Cause, map-Cause, roll-Cause, fold-roll-Cause, ind-Cause}
use Rattle.error_conditions.specs.declared.cause.Cause.TheOpen.{Cause-F}
use Rattle.error_conditions.specs.declared.cause.Cause.TheOpen as cause
use Rattle.error_behavior.specs.declared.steps.Emission.{Emission}
use Rattle.error_behavior.specs.declared.steps.Origin.{Origin}
use Rattle.error_behavior.specs.declared.steps.Origin.TheVariants.{Always, From}
use Rattle.error_behavior.specs.declared.steps.Step.{Step}
use Rattle.instantiator.specs.Components.{component_below}
use Rattle.propagation_links.specs.declared.link.PointAt.{PointAt}
use Rattle.model_facts.specs.Facts.{event_in, event_number, fact_in, fact_number, inward_of, outward_of, same_event, same_fact}
use Rattle.model_facts.specs.declared.keys.EventKey.{EventKey}
use Rattle.model_facts.specs.declared.keys.EventKind.TheVariants.{Arrival, Declared, Source}
use Rattle.model_facts.specs.declared.keys.FactKey.{FactKey}
use Rattle.model_facts.specs.declared.keys.FactKind.{FactKind}
use Rattle.model_facts.specs.declared.keys.FactKind.TheVariants.{State, Enters, Exits}
use Rattle.fault_system.specs.Truth.{in_range, in_range_step}
use Rattle.fault_system.specs.declared.formula.Formula.{Formula, fold-roll-Formula}
use Rattle.fault_system.specs.declared.formula.Formula.TheVariants.{True, Event, Fact, And, Or, AtLeast, rolls-True, rolls-Event, rolls-Fact, rolls-And, rolls-Or, rolls-AtLeast}
use Rattle.fault_system.specs.declared.formula.Formula.TheOpen as open_formula
use Rattle.fact_formulas.specs.Numbered.{Numbered, Site, entering, event_formula, fact_formula, own_fact, reached_inward, site_of, some_entering}
use Rattle.fact_formulas.specs.Formulas.{FlowAt, all_flow_formulas, cause_formula, cause_step, conditions_to, covers_type, emission_formula, flow_formula, flow_formulas, flows_at, held_formula, in_state, origin_formula, step_formula, steps_to}
use Rattle.fact_formulas.specs.Facts.{fact_at, kind_formula, linked_formula, linked_from, meaning_of, perhaps_at}

both_true : (a b : Bool) → a ≡ true → b ≡ true → (a && b) ≡ true
both_true true b e f = f
both_true false b e f = e

first_then : (a b d : Bool) → (a && b) ≡ true → (b ≡ true → d ≡ true) → (a && d) ≡ true
first_then true b d h more = more h
first_then false b d h more = h

module _ (facts events : ℕ) where
  abbrev InRange : Formula → Type 0
  InRange f = in_range facts events f ≡ true

  -- all of these are in range
  abbrev AllInRange : List Formula → Type 0
  AllInRange formulas = list_all (λ b. b) (map (in_range facts events) formulas) ≡ true

  in_range-True : InRange True
  in_range-True = ap (in_range facts events) (sym rolls-True) ∙ fold-roll-Formula Bool (in_range_step facts events) open_formula.True

  in_range-Event : (n : ℕ) → n < events → InRange (Event n)
  in_range-Event n h = ap (in_range facts events) (sym (rolls-Event n)) ∙ fold-roll-Formula Bool (in_range_step facts events) (open_formula.Event n) ∙ lt-ltb n events h

  in_range-Fact : (n : ℕ) → n < facts → InRange (Fact n)
  in_range-Fact n h = ap (in_range facts events) (sym (rolls-Fact n)) ∙ fold-roll-Formula Bool (in_range_step facts events) (open_formula.Fact n) ∙ lt-ltb n facts h

  in_range-And : (parts : List Formula) → AllInRange parts → InRange (And parts)
  in_range-And parts h = ap (in_range facts events) (sym (rolls-And parts)) ∙ fold-roll-Formula Bool (in_range_step facts events) (open_formula.And parts) ∙ h

  in_range-Or : (parts : List Formula) → AllInRange parts → InRange (Or parts)
  in_range-Or parts h = ap (in_range facts events) (sym (rolls-Or parts)) ∙ fold-roll-Formula Bool (in_range_step facts events) (open_formula.Or parts) ∙ h

  in_range-AtLeast : (least : ℕ) (parts : List Formula) → AllInRange parts → InRange (AtLeast least parts)
  in_range-AtLeast least parts h = ap (in_range facts events) (sym (rolls-AtLeast least parts)) ∙ fold-roll-Formula Bool (in_range_step facts events) (open_formula.AtLeast least parts) ∙ h

  all-map : {A : Type 0} (f : A → Formula) → ((x : A) → InRange (f x)) → (xs : List A) → AllInRange (map f xs)
  all-map f each [] = refl
  all-map f each (x ∷ xs) = both_true _ _ (each x) (all-map f each xs)

  all-append : (xs ys : List Formula) → AllInRange xs → AllInRange ys → AllInRange (xs ++ ys)
  all-append [] ys h k = k
  all-append (x ∷ xs) ys h k = first_then (in_range facts events x) _ _ h (λ rest. all-append xs ys rest k)

  all-flat_map : {A : Type 0} (f : A → List Formula) → ((x : A) → AllInRange (f x)) → (xs : List A) → AllInRange (flat_map f xs)
  all-flat_map f each [] = refl
  all-flat_map f each (x ∷ xs) = all-append (f x) (flat_map f xs) (each x) (all-flat_map f each xs)

  all-one : (formula : Formula) → InRange formula → AllInRange (formula ∷ [])
  all-one formula h = both_true _ _ h refl

  all-two : (a b : Formula) → InRange a → InRange b → AllInRange (a ∷ b ∷ [])
  all-two a b h k = both_true _ _ h (all-one b k)

  all-cond : (b : Bool) (formula : Formula) → InRange formula → AllInRange (cond b (formula ∷ []) [])
  all-cond true formula h = all-one formula h
  all-cond false formula h = refl

module _ (numbered : Numbered) where
  abbrev Within : Formula → Type 0
  Within f = in_range (length numbered.facts) (length numbered.events) f ≡ true

  abbrev AllWithin : List Formula → Type 0
  AllWithin formulas = list_all (λ b. b) (map (in_range (length numbered.facts) (length numbered.events)) formulas) ≡ true

  within-none : Within (Or [])
  within-none = in_range-Or _ _ [] refl

  fact-so : (fact : FactKey) (number : Option ℕ) → fact_number numbered.facts fact ≡ number → Within (option_map_or Fact number (Or []))
  fact-so fact None is = within-none
  fact-so fact (Some number) is = in_range-Fact _ _ number (position-Some (same_fact fact) numbered.facts number fact is).0

  within-fact : (fact : FactKey) → Within (fact_formula numbered fact)
  within-fact fact = fact-so fact (fact_number numbered.facts fact) refl

  event-so : (event : EventKey) (number : Option ℕ) (other : Formula) → Within other → event_number numbered.events event ≡ number → Within (option_map_or Event number other)
  event-so event None other h is = h
  event-so event (Some number) other h is = in_range-Event _ _ number (position-Some (same_event event) numbered.events number event is).0

  within-event : (event : EventKey) → Within (event_formula numbered event)
  within-event event = event-so event (event_number numbered.events event) (Or []) within-none refl

  within-state : (component : Option ℕ) (state : ℕ) → Within (in_state numbered component state)
  within-state None state = within-none
  within-state (Some component) state = within-fact (fact_in component (State state))

  perhaps-so : (fact : FactKey) (number : Option ℕ) → fact_number numbered.facts fact ≡ number → AllWithin (option_to_list (option_map Fact number))
  perhaps-so fact None is = refl
  perhaps-so fact (Some number) is = all-one _ _ (Fact number) (in_range-Fact _ _ number (position-Some (same_fact fact) numbered.facts number fact is).0)

  within-linked : (type : ℕ) (side : PointAt) → Within (linked_formula numbered type side)
  within-linked type side =
      in_range-Or _ _ (flat_map (perhaps_at numbered type) (linked_from side numbered.assembly.links))
      (all-flat_map _ _ (perhaps_at numbered type) (λ from. perhaps-so (fact_at type from) (fact_number numbered.facts (fact_at type from)) refl) (linked_from side numbered.assembly.links))

module _ (site : Site) where
  abbrev There : Formula → Type 0
  There = Within site.numbered

  abbrev AllThere : List Formula → Type 0
  AllThere = AllWithin site.numbered

  there-entering : (reached : ReachedPoint) → There (some_entering site reached)
  there-entering reached = in_range-Or _ _ _ (all-map _ _ (entering site reached.point) (λ type. within-fact site.numbered (fact_in site.owner (Enters reached.point type))) (reached_inward site reached))

  -- ---- conditions

  abbrev Fits : Cause → Type 0
  Fits c = There (cause_formula site c)

  abbrev Part : Type 0
  Part = (c : Cause) × Fits c

  abbrev Layer : Cause-F Cause → Type 0
  Layer x = There (cause_step site (map-Cause Cause Formula (cause_formula site) x))

  parts_fit : (ps : List Part) → AllThere (map (cause_formula site) (map (λ p. p.0) ps))
  parts_fit [] = refl
  parts_fit (p ∷ ps) = both_true _ _ p.1 (parts_fit ps)

  layer : (y : Cause-F Part) → Layer (map-Cause Part Cause (λ p. p.0) y)
  layer (cause.Event number) = within-event site.numbered (event_in site.owner (Declared number))
  layer (cause.State below) = within-state site.numbered (component_below site.numbered.assembly.instance.components site.owner below.path) below.state
  layer (cause.Point reached) = there-entering reached
  layer (cause.All ps) = in_range-And _ _ _ (parts_fit ps)
  layer (cause.Any ps) = in_range-Or _ _ _ (parts_fit ps)
  layer (cause.AtLeast least ps) = in_range-AtLeast _ _ least _ (parts_fit ps)

  rolled : (x : Cause-F Cause) → Layer x → Fits (roll-Cause x)
  rolled x fits = ap (in_range (length site.numbered.facts) (length site.numbered.events)) (fold-roll-Cause Formula (cause_step site) x) ∙ fits

  cause-there : (c : Cause) → Fits c
  cause-there = ind-Cause Fits (λ x y is. rolled x (subst Layer is (layer y)))

  -- ---- transitions, outgoing conditions and flows

  held-there : (one : Held) → There (held_formula site one)
  held-there (held.One state) = within-fact site.numbered (fact_in site.owner (State state))
  held-there (held.Any states) = in_range-Or _ _ _ (all-map _ _ (λ state. own_fact site (State state)) (λ state. within-fact site.numbered (fact_in site.owner (State state))) states)

  origin-there : (origin : Origin) → There (origin_formula site origin)
  origin-there Always = in_range-True _ _
  origin-there (From state) = held-there state

  step-there : (step : Step) → There (step_formula site step)
  step-there step = in_range-And _ _ _ (all-two _ _ _ _ (origin-there step.origin) (cause-there step.trigger))

  trigger-there : (origin : Origin) (trigger : Option Cause) → AllThere (origin_formula site origin ∷ option_to_list (option_map (cause_formula site) trigger))
  trigger-there origin None = all-one _ _ _ (origin-there origin)
  trigger-there origin (Some trigger) = all-two _ _ _ _ (origin-there origin) (cause-there trigger)

  emission-there : (emission : Emission) → There (emission_formula site emission)
  emission-there emission = in_range-And _ _ _ (trigger-there emission.origin emission.trigger)

  flow-there : (type number : ℕ) (meaning : FlowMeaning) → There (flow_formula site type number meaning)
  flow-there type number (flow.Event name reached) = within-event site.numbered (event_in site.owner (Source number))
  flow-there type number (flow.State state reached) = held-there state
  flow-there type number (flow.Carry start end) = within-fact site.numbered (fact_in site.owner (Enters start.point type))
  flow-there type number (flow.Change start end types) = there-entering start

  flows-there : (type : ℕ) (flows : List FlowAt) → AllThere (all_flow_formulas site type flows)
  flows-there type flows =
      all-flat_map _ _ (λ at. flow_formulas site type at.number at.flow) (λ at. all-cond _ _ (covers_type site type at.flow) (flow_formula site type at.number at.flow) (flow-there type at.number at.flow)) flows

  -- ---- facts

  some-there : (b : Bool) (formulas : List Formula) (other : Formula) → AllThere formulas → There other → There (cond b other (Or formulas))
  some-there true formulas other h k = k
  some-there false formulas other h k = in_range-Or _ _ formulas h

  state-so : (initial composite : Bool) (a b : List Formula) → AllThere a → AllThere b → There (cond initial True (cond composite (Or a) (Or b)))
  state-so true composite a b h k = in_range-True _ _
  state-so false true a b h k = in_range-Or _ _ a h
  state-so false false a b h k = in_range-Or _ _ b k

  kind-there : (kind : FactKind) → There (kind_formula site kind)
  kind-there (State state) =
      state-so _ _ _ _ (all-map _ _ (cause_formula site) cause-there (conditions_to state site.model.composites)) (all-map _ _ (step_formula site) step-there (steps_to state site.model.behavior.steps))
  kind-there (Enters point type) =
      event-so site.numbered (event_in site.owner (Arrival point type)) (event_number site.numbered.events (event_in site.owner (Arrival point type))) (linked_formula site.numbered type (inward_of site.owner point))
      (within-linked site.numbered type (inward_of site.owner point)) refl
  kind-there (Exits point type) =
      some-there _ _ _ (all-map _ _ (emission_formula site) emission-there _)
      (some-there _ _ _ (flows-there type (flows_at point site.model.flows)) (within-linked site.numbered type (outward_of site.owner point)))

-- the formula of each fact
pub meaning-within : (numbered : Numbered) (fact : FactKey) → in_range (length numbered.facts) (length numbered.events) (meaning_of numbered fact) ≡ true
meaning-within numbered fact = kind-there (site_of numbered fact.owner) fact.kind
