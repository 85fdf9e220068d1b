-- How many places formulas have.
use Rattle.std.proofs.Common.{◌≡◌, inl, inr, ℕ, ◌+◌, ◌<◌, ◌≤◌, true, false, cond, slice_index_or, List, [], ◌∷◌, ◌++◌, length, map, flat_map, get_or, take, sum, Option, Some, None, option_map, option_to_list, refl, sym, ap, ◌∙◌, subst, arith}
use Rattle.std.specs.Option.{option_map_or}
use Rattle.std.proofs.lemmas.Grind.{flat_map-append}
use Rattle.std.proofs.lemmas.List.{append-nil, map-append, take_more}
use Rattle.std.proofs.lemmas.List.Sums.{sum_by-append, sum_by-cons}
use Rattle.propagation_points.specs.declared.held.Held.TheVariants as held
use Rattle.propagation_points.specs.declared.uses.ReachedPoint.{ReachedPoint}
use Rattle.error_flows.specs.declared.meaning.FlowMeaning.TheVariants as flow
use Rattle.error_conditions.specs.declared.cause.Cause.{Cause, fold-roll-Cause}
use Rattle.error_conditions.specs.declared.cause.Cause.TheOpen as cause
use Rattle.error_conditions.specs.declared.cause.Cause.TheVariants as causes
use Rattle.error_conditions.specs.declared.cause.StateBelow.{StateBelow}
use Rattle.error_behavior.specs.declared.steps.Emission.{Emission}
use Rattle.error_behavior.specs.declared.steps.Step.{Step}
use Rattle.instantiator.specs.Components.{component_below}
use Rattle.model_facts.specs.Facts.{event_in, event_number, fact_in, fact_number, inward_of}
use Rattle.model_facts.specs.declared.keys.EventKey.{EventKey}
use Rattle.model_facts.specs.declared.keys.EventKind.TheVariants.{Arrival, Declared, Source}
use Rattle.model_facts.specs.declared.keys.FactKey.{FactKey}
use Rattle.model_facts.specs.declared.keys.FactKind.TheVariants.{State, Enters}
use Rattle.fault_system.specs.declared.formula.Formula.{Formula, fold-roll-Formula, ind-Formula, map-Formula, roll-Formula}
use Rattle.fault_system.specs.declared.formula.Formula.TheVariants.{True, Event, Fact, And, Or, AtLeast, rolls-True, rolls-Event, rolls-Fact, rolls-And, rolls-Or, rolls-AtLeast}
use Rattle.fault_system.specs.declared.formula.Formula.TheOpen.{Formula-F}
use Rattle.fault_system.specs.declared.formula.Formula.TheOpen as open_formula
use Rattle.fact_formulas.specs.Facts.{enter_formula, is_empty, linked_formula, some_of, state_formula}
use Rattle.fact_formulas.specs.Flat.{places, places_step}
use Rattle.fact_formulas.specs.Formulas.{cause_formula, cause_step, conditions_to, emission_formula, flow_formula, held_formula, in_state, origin_formula, step_formula, steps_to}
use Rattle.fact_formulas.specs.Numbered.{Numbered, Site, entering, event_formula, fact_formula, own_fact, reached_inward, some_entering}
use Rattle.flattener.specs.inner.Tables.{capped, places_of}
use Rattle.flattener.proofs.Caps.{capped_cases}

pub places-True : places True ≡ 1
places-True = ap places (sym rolls-True) ∙ fold-roll-Formula ℕ places_step open_formula.True

pub places-Event : (n : ℕ) → places (Event n) ≡ 1
places-Event n = ap places (sym (rolls-Event n)) ∙ fold-roll-Formula ℕ places_step (open_formula.Event n)

pub places-Fact : (n : ℕ) → places (Fact n) ≡ 1
places-Fact n = ap places (sym (rolls-Fact n)) ∙ fold-roll-Formula ℕ places_step (open_formula.Fact n)

pub places-And : (parts : List Formula) → places (And parts) ≡ 1 + places_of parts
places-And parts = ap places (sym (rolls-And parts)) ∙ fold-roll-Formula ℕ places_step (open_formula.And parts)

pub places-Or : (parts : List Formula) → places (Or parts) ≡ 1 + places_of parts
places-Or parts = ap places (sym (rolls-Or parts)) ∙ fold-roll-Formula ℕ places_step (open_formula.Or parts)

pub places-AtLeast : (least : ℕ) (parts : List Formula) → places (AtLeast least parts) ≡ 1 + places_of parts
places-AtLeast least parts = ap places (sym (rolls-AtLeast least parts)) ∙ fold-roll-Formula ℕ places_step (open_formula.AtLeast least parts)

pub places-cons : (formula : Formula) (formulas : List Formula) → places_of (formula ∷ formulas) ≡ places formula + places_of formulas
places-cons formula formulas = sum_by-cons (λ n. n) (places formula) (map places formulas)

-- ---- leaves

fact-so : (number : Option ℕ) → places (option_map_or Fact number (Or [])) ≡ 1
fact-so None = places-Or []
fact-so (Some n) = places-Fact n

pub fact-place : (numbered : Numbered) (fact : FactKey) → places (fact_formula numbered fact) ≡ 1
fact-place numbered fact = fact-so (fact_number numbered.facts fact)

event-so : (number : Option ℕ) → places (option_map_or Event number (Or [])) ≡ 1
event-so None = places-Or []
event-so (Some n) = places-Event n

pub event-place : (numbered : Numbered) (event : EventKey) → places (event_formula numbered event) ≡ 1
event-place numbered event = event-so (event_number numbered.events event)

pub state-place : (numbered : Numbered) (component : Option ℕ) (state : ℕ) → places (in_state numbered component state) ≡ 1
state-place numbered None state = places-Or []
state-place numbered (Some component) state = fact-place numbered (fact_in component (State state))

-- ---- lists

ones : {A : Type 0} (f : A → Formula) → ((x : A) → places (f x) ≡ 1) → (xs : List A) → places_of (map f xs) ≡ length xs
ones f each [] = refl
ones f each (x ∷ xs) = omega (arith, places-cons (f x) (map f xs), each x, ones f each xs)

pub held-one : (site : Site) (state : ℕ) → places (held_formula site (held.One state)) ≡ 1
held-one site state = fact-place site.numbered (fact_in site.owner (State state))

pub held-any : (site : Site) (states : List ℕ) → places (held_formula site (held.Any states)) ≡ 1 + length states
held-any site states =
    places-Or (map (λ state. own_fact site (State state)) states)
    ∙ ap (λ n. 1 + n) (ones (λ state. own_fact site (State state)) (λ state. fact-place site.numbered (fact_in site.owner (State state))) states)

pub entering-places : (site : Site) (reached : ReachedPoint) → places (some_entering site reached) ≡ 1 + length (reached_inward site reached)
entering-places site reached =
    places-Or (map (entering site reached.point) (reached_inward site reached))
    ∙ ap (λ n. 1 + n) (ones (entering site reached.point) (λ type. fact-place site.numbered (fact_in site.owner (Enters reached.point type))) (reached_inward site reached))

-- ---- conditions

module _ (site : Site) where
  pub cause-event : (n : ℕ) → places (cause_formula site (causes.Event n)) ≡ 1
  cause-event n = ap (λ c. places (cause_formula site c)) (sym (causes.rolls-Event n)) ∙ ap places (fold-roll-Cause Formula (cause_step site) (cause.Event n)) ∙ event-place site.numbered (event_in site.owner (Declared n))

  pub cause-state : (below : StateBelow) → places (cause_formula site (causes.State below)) ≡ 1
  cause-state below =
      ap (λ c. places (cause_formula site c)) (sym (causes.rolls-State below)) ∙ ap places (fold-roll-Cause Formula (cause_step site) (cause.State below))
      ∙ state-place site.numbered (component_below site.numbered.assembly.instance.components site.owner below.path) below.state

  pub cause-point : (reached : ReachedPoint) → places (cause_formula site (causes.Point reached)) ≡ places (some_entering site reached)
  cause-point reached = ap (λ c. places (cause_formula site c)) (sym (causes.rolls-Point reached)) ∙ ap places (fold-roll-Cause Formula (cause_step site) (cause.Point reached))

  pub cause-all : (parts : List Cause) → places (cause_formula site (causes.All parts)) ≡ 1 + places_of (map (cause_formula site) parts)
  cause-all parts =
      ap (λ c. places (cause_formula site c)) (sym (causes.rolls-All parts)) ∙ ap places (fold-roll-Cause Formula (cause_step site) (cause.All parts)) ∙ places-And (map (cause_formula site) parts)

  pub cause-any : (parts : List Cause) → places (cause_formula site (causes.Any parts)) ≡ 1 + places_of (map (cause_formula site) parts)
  cause-any parts =
      ap (λ c. places (cause_formula site c)) (sym (causes.rolls-Any parts)) ∙ ap places (fold-roll-Cause Formula (cause_step site) (cause.Any parts)) ∙ places-Or (map (cause_formula site) parts)

  pub cause-atleast : (least : ℕ) (parts : List Cause) → places (cause_formula site (causes.AtLeast least parts)) ≡ 1 + places_of (map (cause_formula site) parts)
  cause-atleast least parts =
      ap (λ c. places (cause_formula site c)) (sym (causes.rolls-AtLeast least parts)) ∙ ap places (fold-roll-Cause Formula (cause_step site) (cause.AtLeast least parts))
      ∙ places-AtLeast least (map (cause_formula site) parts)

  -- ---- transitions and outgoing conditions

  pub step-places : (step : Step) → places (step_formula site step) ≡ 1 + (places (origin_formula site step.origin) + places (cause_formula site step.trigger))
  step-places step =
      let both = places-And (origin_formula site step.origin ∷ cause_formula site step.trigger ∷ []) in
      omega (arith, both, places-cons (origin_formula site step.origin) (cause_formula site step.trigger ∷ []), places-cons (cause_formula site step.trigger) [])

  pub emission-none : (emission : Emission) → emission.trigger ≡ None → places (emission_formula site emission) ≡ 1 + places (origin_formula site emission.origin)
  emission-none emission is =
      let parts : Option Cause → List Formula = λ trigger. origin_formula site emission.origin ∷ option_to_list (option_map (cause_formula site) trigger) in
      let one = places-And (origin_formula site emission.origin ∷ []) in
      ap (λ trigger. places (And (parts trigger))) is ∙ omega (arith, one, places-cons (origin_formula site emission.origin) [])

  pub emission-some : (emission : Emission) (trigger : Cause) → emission.trigger ≡ Some trigger → places (emission_formula site emission) ≡ 1 + (places (origin_formula site emission.origin) + places (cause_formula site trigger))
  emission-some emission trigger is =
      let parts : Option Cause → List Formula = λ trigger. origin_formula site emission.origin ∷ option_to_list (option_map (cause_formula site) trigger) in
      let both = places-And (origin_formula site emission.origin ∷ cause_formula site trigger ∷ []) in
      ap (λ trigger. places (And (parts trigger))) is ∙ omega (arith, both, places-cons (origin_formula site emission.origin) (cause_formula site trigger ∷ []), places-cons (cause_formula site trigger) [])

-- ---- what has places

some-places : (formula : Formula) → 1 ≤ places formula
some-places = ind-Formula (λ formula. 1 ≤ places formula) rolled
  where
    layer : (x : Formula-F Formula) → 1 ≤ places_step (map-Formula Formula ℕ places x)
    layer open_formula.True = omega arith
    layer (open_formula.Event n) = omega arith
    layer (open_formula.Fact n) = omega arith
    layer (open_formula.And parts) = omega arith
    layer (open_formula.Or parts) = omega arith
    layer (open_formula.AtLeast least parts) = omega arith

    rolled : (x : Formula-F Formula) (y : Formula-F ((f : Formula) × (1 ≤ places f))) → map-Formula ((f : Formula) × (1 ≤ places f)) Formula (λ p. p.0) y ≡ x → 1 ≤ places (roll-Formula x)
    rolled x y is = subst (λ n. 1 ≤ n) (sym (fold-roll-Formula ℕ places_step x)) (layer x)

-- formulas that have no place together are none
pub none-places : (formulas : List Formula) → 0 ≡ capped (places_of formulas) → is_empty formulas ≡ true
none-places [] is = refl
none-places (formula ∷ formulas) is =
    elim (capped_cases (places_of (formula ∷ formulas))) [
      | inl few ↦ absurd (omega (arith, is ∙ few.1, places-cons formula formulas, some-places formula))
      | inr many ↦ absurd (omega (arith, is ∙ many.1))
    ]

-- formulas that have places are some
pub some-formulas : (formulas : List Formula) (count : ℕ) → count ≡ capped (places_of formulas) → (count ≡ 0 → ⊥) → is_empty formulas ≡ false
some-formulas [] count is some = absurd (some is)
some-formulas (formula ∷ formulas) count is some = refl

-- ---- facts

module _ (site : Site) where
  pub flow-event : (type number : ℕ) (name : List ℕ) (reached : ReachedPoint) → places (flow_formula site type number (flow.Event name reached)) ≡ 1
  flow-event type number name reached = event-place site.numbered (event_in site.owner (Source number))

-- one place where a type may be at a side
pub perhaps-one : (number : Option ℕ) (n : ℕ) → number ≡ Some n → places_of (option_to_list (option_map Fact number)) ≡ 1
perhaps-one number n is = ap (λ o. places_of (option_to_list (option_map Fact o))) is ∙ omega (arith, places-cons (Fact n) [], places-Fact n)

-- one of these, or what is said otherwise
pub some-empty : (formulas : List Formula) (otherwise : Formula) → 0 ≡ capped (places_of formulas) → places (some_of formulas otherwise) ≡ places otherwise
some-empty formulas otherwise none = ap (λ b. places (cond b otherwise (Or formulas))) (none-places formulas none)

pub some-full : (formulas : List Formula) (otherwise : Formula) (count : ℕ) → count ≡ capped (places_of formulas) → (count ≡ 0 → ⊥) → places (some_of formulas otherwise) ≡ 1 + places_of formulas
some-full formulas otherwise count is some = ap (λ b. places (cond b otherwise (Or formulas))) (some-formulas formulas count is some) ∙ places-Or formulas

-- in an initial state, a composite one, and another
pub state-initial : (site : Site) (state : ℕ) → slice_index_or site.model.states.always state false ≡ true → places (state_formula site state) ≡ 1
state-initial site state is =
    ap (λ b. places (cond b True (cond site.model.is_composite (Or (map (cause_formula site) (conditions_to state site.model.composites))) (Or (map (step_formula site) (steps_to state site.model.behavior.steps)))))) is ∙ places-True

pub state-composite : (site : Site) (state : ℕ) → slice_index_or site.model.states.always state false ≡ false → site.model.is_composite ≡ true → places (state_formula site state) ≡ 1 + places_of (map (cause_formula site) (conditions_to state site.model.composites))
state-composite site state is composite =
    ap (λ b. places (cond b True (cond site.model.is_composite (Or (map (cause_formula site) (conditions_to state site.model.composites))) (Or (map (step_formula site) (steps_to state site.model.behavior.steps)))))) is
    ∙ ap (λ b. places (cond b (Or (map (cause_formula site) (conditions_to state site.model.composites))) (Or (map (step_formula site) (steps_to state site.model.behavior.steps))))) composite
    ∙ places-Or (map (cause_formula site) (conditions_to state site.model.composites))

pub state-stepped : (site : Site) (state : ℕ) → slice_index_or site.model.states.always state false ≡ false → site.model.is_composite ≡ false → places (state_formula site state) ≡ 1 + places_of (map (step_formula site) (steps_to state site.model.behavior.steps))
state-stepped site state is composite =
    ap (λ b. places (cond b True (cond site.model.is_composite (Or (map (cause_formula site) (conditions_to state site.model.composites))) (Or (map (step_formula site) (steps_to state site.model.behavior.steps)))))) is
    ∙ ap (λ b. places (cond b (Or (map (cause_formula site) (conditions_to state site.model.composites))) (Or (map (step_formula site) (steps_to state site.model.behavior.steps))))) composite
    ∙ places-Or (map (step_formula site) (steps_to state site.model.behavior.steps))

-- a type that enters with its external event
pub enter-event : (site : Site) (point type n : ℕ) → event_number site.numbered.events (event_in site.owner (Arrival point type)) ≡ Some n → places (enter_formula site point type) ≡ 1
enter-event site point type n is = ap (λ o. places (option_map_or Event o (linked_formula site.numbered type (inward_of site.owner point)))) is ∙ places-Event n

-- ---- loops

pub places-append : (a b : List Formula) → places_of (a ++ b) ≡ places_of a + places_of b
places-append a b = ap sum (map-append places a b) ∙ sum_by-append (λ n. n) (map places a) (map places b)

-- what items give, with one more
pub gives-more : {A : Type 0} (f : A → List Formula) (items : List A) (i : ℕ) (d : A) → i < length items → flat_map f (take (i + 1) items) ≡ flat_map f (take i items) ++ f (get_or items i d)
gives-more f items i d within = ap (flat_map f) (take_more items i d within) ∙ flat_map-append f (take i items) (get_or items i d ∷ []) ∙ ap (λ more. flat_map f (take i items) ++ more) (append-nil (f (get_or items i d)))
