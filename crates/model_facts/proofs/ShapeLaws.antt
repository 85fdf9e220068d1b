-- The shape of error models: names that differ, and types that rise.
use Rattle.std.proofs.Common.{ℕ, ◌≡◌, ◌≢◌, ◌<◌, ◌⊎◌, inl, inr, Bool, true, false, ◌&&◌, cond, List, [], ◌∷◌, ◌++◌, map, flat_map, find, fold, length, get_or, position, slice_get, Option, Some, None, is_some, option_and_then, option_map, option_to_list, refl, sym, ap, ◌∙◌, subst}
use Rattle.std.specs.Cmp.{first_so}
use Rattle.std.specs.List.{AllByRecursion, list_any}
use Rattle.std.proofs.lemmas.Bool.{false≢true}
use Rattle.std.proofs.lemmas.List.{map-append}
use Rattle.std.proofs.lemmas.List.Elements.{recursion_from_All}
use Rattle.std.proofs.lemmas.List.Folds.{list_any_at}
use Rattle.std.proofs.lemmas.List.Quantifiers.{all_pairs_push, position-Some}
use Rattle.std.proofs.lemmas.Slice.Eq.{bytes_eq-Decides}
use Rattle.std.proofs.Math.Seq.{map-set_same}
use Rattle.plain_values.specs.Name.{is_same_text}
use Rattle.aadl_syntax.specs.declared.error_model.Flow.{Flow}
use Rattle.aadl_syntax.specs.declared.error_model.FlowKind.{FlowKind}
use Rattle.aadl_syntax.specs.declared.error_model.FlowKind.TheVariants as kind
use Rattle.aadl_syntax.specs.declared.error_model.PointItem.{PointItem}
use Rattle.aadl_syntax.specs.declared.error_model.StateDecl.{StateDecl}
use Rattle.aadl_syntax.specs.declared.error_model.StateRef.{StateRef}
use Rattle.aadl_syntax.specs.declared.error_model.TypeSet.{TypeSet}
use Rattle.package_index.specs.declared.id.ClassifierId.{ClassifierId}
use Rattle.plain_values.specs.Numbered.{numbered_from}
use Rattle.package_index.proofs.KnowsLaws.{some-place}
use Rattle.component_extension.specs.declared.effective.Effective.{Effective}
use Rattle.component_extension.specs.Chain.{chain_of}
use Rattle.component_extension.specs.Items.{Clause, Scoped, classes_of, clauses_of, gathered, scoped_by}
use Rattle.component_extension.specs.Rows.{Key, goes_by, named, place_by, put, put_at}
use Rattle.error_libraries.specs.declared.scope.Scope.{Scope}
use Rattle.error_libraries.specs.Libraries.{Table}
use Rattle.propagation_points.specs.declared.side.Reach.{Reach}
use Rattle.propagation_points.specs.declared.side.Reach.TheVariants.{Whole, Only}
use Rattle.propagation_points.specs.declared.side.Side.{Side}
use Rattle.propagation_points.specs.declared.side.Side.TheVariants.{Absent, Free, Declared}
use Rattle.propagation_points.specs.declared.uses.ReachedPoint.{ReachedPoint}
use Rattle.propagation_points.specs.Points.{OpenPoint, Point, declares, keep_at, keep_first, open_points, place_named, points_of, propagated, scopes_of, side_with, types_in, with_sides}
use Rattle.propagation_points.specs.inner.Points.{NamesDiffer}
use Rattle.propagation_points.specs.Settings.{Setting, clause_setting, held_in, reached_in}
use Rattle.propagation_points.specs.declared.held.Held.{Held}
use Rattle.propagation_points.specs.States.{Sort, Variant, all_variants, declared_by, keep_sort, place_of_sort, variant_types, variants_named, variants_of}
use Rattle.propagation_points.specs.Uses.{point_use}
use Rattle.error_flows.specs.declared.meaning.FlowMeaning.{FlowMeaning}
use Rattle.error_flows.specs.declared.meaning.FlowMeaning.TheVariants.{Event, State, Carry, Change}
use Rattle.error_flows.specs.Flows.{flow_meaning, path_meaning, source_meaning}
use Rattle.error_machines.specs.declared.states.States.{States}
use Rattle.error_machines.specs.Machines.{Machine}
use Rattle.error_machines.specs.declared.states.Events.{Events}
use Rattle.error_machines.specs.States.{EventAt, event_types, events_of, is_free, keep_event, keep_event_at, keep_state, no_events, no_states, states_of}
use Rattle.error_machines.specs.States as behavior
use Rattle.instantiator.specs.Effectives.{chain_or_none, effective_of}
use Rattle.instantiator.proofs.Apart.{Apart, AllPairs-from_Apart, Apart-from_AllPairs, apart-append, apart-flat_map, apart-map, apart-unmap, each-all, each-append, each-map, each-weaker}
use Rattle.instantiator.proofs.MemberNames.{name-same, same-name}
use Rattle.error_models.specs.declared.model.ErrorModel.{ErrorModel}
use Rattle.error_models.specs.Below.{kind_machine}
use Rattle.error_models.specs.Models.{model_of}
use Rattle.model_facts.specs.Assembly.{no_model}
use Rattle.model_facts.proofs.RowLaws.{IsRising, rising-apart, rising-filter, rising-none}

-- ---- shapes

-- the declared types of a side rise, below the count of types
abbrev pub Rises : ℕ → Side → Type 0
Rises count Absent = Unit {0}
Rises count Free = Unit {0}
Rises count (Declared types) = IsRising count types

-- the types of both sides
abbrev pub BothRise : ℕ → Point → Type 0
BothRise count point = Rises count point.inward × Rises count point.outward

-- two sources without a state have different names
abbrev pub SourcesDiffer : FlowMeaning → FlowMeaning → Type 0
SourcesDiffer (Event a reached) (Event b other) = a ≢ b
SourcesDiffer a b = Unit {0}

-- one type stands before another among those that there are
abbrev pub IsEarlier : ℕ → Option ℕ → Option ℕ → Type 0
IsEarlier count None other = ⊥
IsEarlier count (Some type) None = ⊥
IsEarlier count (Some type) (Some other) = (type < other) × (other < count)

-- two variants have different names, or the type of the first is the earlier one
abbrev pub VariantsDiffer : ℕ → Variant → Variant → Type 0
VariantsDiffer count a b = (a.name ≢ b.name) ⊎ IsEarlier count a.type b.type

pub record IsShaped (count : ℕ) (model : ErrorModel) : Type 0 where
  pub points : NamesDiffer (λ point. point.name) model.points
  pub sides : AllByRecursion (BothRise count) model.points
  pub states : Apart (VariantsDiffer count) (all_variants model.states.sorts)
  pub events : Apart (VariantsDiffer count) (all_variants model.behavior.events)
  pub sources : Apart SourcesDiffer model.flows

-- ---- what is kept

fold-keeps : {A B : Type 0} (P : B → Type 0) (h : B → A → B) → ((b : B) (x : A) → P b → P (h b x)) → (xs : List A) (b : B) → P b → P (fold h b xs)
fold-keeps P h step [] b is = is
fold-keeps P h step (x ∷ xs) b is = fold-keeps P h step xs (h b x) (step b x is)

fold-map-keeps : {A B C : Type 0} (P : B → Type 0) (h : B → A → B) (f : C → A) → ((b : B) (y : C) → P b → P (h b (f y))) → (ys : List C) (b : B) → P b → P (fold h b (map f ys))
fold-map-keeps P h f step [] b is = is
fold-map-keeps P h f step (y ∷ ys) b is = fold-map-keeps P h f step ys (h b (f y)) (step b y is)

none-differ : {Item : Type 0} (name_of : Item → List ℕ) → NamesDiffer name_of []
none-differ name_of = AllPairs-from_Apart (λ a b. name_of a ≢ name_of b) [] tt

-- an item is put last only where none has its name
keep-differ : {Item : Type 0} (name_of : Item → List ℕ) (items : List Item) (item : Item) (place : Option ℕ) → position (λ each. is_same_text (name_of each) (name_of item)) items ≡ place → NamesDiffer name_of items → NamesDiffer name_of (keep_at place items item)
keep-differ name_of items item (Some place) is differ = differ
keep-differ {Item} name_of items item None is differ =
    let has = λ (each : Item). is_same_text (name_of each) (name_of item) in
    let absent : list_any has items ≡ false = sym (some-place has items) ∙ ap is_some is in
    all_pairs_push (λ a b. name_of a ≢ name_of b) items item differ
    (λ place default within same. false≢true (sym absent ∙ list_any_at has items place default within ((bytes_eq-Decides (name_of (get_or items place default)) (name_of item)).1 same)))

-- ---- states and events

set-rises : (table : Table) (scope : Option Scope) (set : TypeSet) → IsRising (length table.types) (types_in table scope set)
set-rises table None set = rising-none (length table.types)
set-rises table (Some scope) set = rising-filter _ (length table.types)

-- the types with which a state or an event is declared rise
abbrev TypesRise : ℕ → Option (List ℕ) → Type 0
TypesRise count None = Unit {0}
TypesRise count (Some types) = IsRising count types

declared-rise : (table : Table) (scope : Option Scope) (set : Option TypeSet) → TypesRise (length table.types) (declared_by table scope set)
declared-rise table scope None = tt
declared-rise table scope (Some set) = set-rises table scope set

-- no two of these have one name, and the types of each rise
abbrev AreSorts : ℕ → List Sort → Type 0
AreSorts count sorts = NamesDiffer (λ sort. sort.name) sorts × AllByRecursion (λ sort. TypesRise count sort.types) sorts

sorts-kept : (count : ℕ) (sorts : List Sort) (name : List ℕ) (types : Option (List ℕ)) → TypesRise count types → AreSorts count sorts → AreSorts count (keep_sort sorts name types)
sorts-kept count sorts name types rise are = (keep-differ (λ (sort : Sort). sort.name) sorts one (place_of_sort sorts name) refl are.0, kept (place_of_sort sorts name))
  where
    one : Sort
    one = record { name = name; first = length (all_variants sorts); types = types }

    kept : (place : Option ℕ) → AllByRecursion (λ (sort : Sort). TypesRise count sort.types) (keep_at place sorts one)
    kept (Some number) = are.1
    kept None = each-append (λ (sort : Sort). TypesRise count sort.types) sorts (one ∷ []) are.1 (rise, tt)

no-sorts : (count : ℕ) → AreSorts count []
no-sorts count = (none-differ (λ (sort : Sort). sort.name), tt)

module _ (count : ℕ) where
  abbrev SortsDiffer : Sort → Sort → Type 0
  SortsDiffer a b = a.name ≢ b.name

  own-variants : (sort : Sort) → TypesRise count sort.types → Apart (VariantsDiffer count) (variants_of sort)
  own-variants sort rise = by sort.types rise
    where
      variant : Option ℕ → Variant
      variant type = record { name = sort.name; type = type }

      by : (types : Option (List ℕ)) → TypesRise count types → Apart (VariantsDiffer count) (variants_named sort.name types)
      by None rise = (tt, tt)
      by (Some types) rise =
          apart-map (VariantsDiffer count) variant (map Some types)
          (apart-map (λ a b. VariantsDiffer count (variant a) (variant b)) Some types
          (rising-apart (λ a b. VariantsDiffer count (variant (Some a)) (variant (Some b))) count (λ a b less within. inr (less, within)) types rise.each rise.apart))

  -- the variants of two of different names
  between-sorts : (a b : Sort) → SortsDiffer a b → AllByRecursion (λ v. AllByRecursion (VariantsDiffer count v) (variants_of b)) (variants_of a)
  between-sorts a b apart =
      let here : Option ℕ → Variant = λ type. record { name = a.name; type = type } in
      let there : Option ℕ → Variant = λ type. record { name = b.name; type = type } in
      each-map (λ v. AllByRecursion (VariantsDiffer count v) (variants_of b)) here (variant_types a.types)
      (each-all (λ type. AllByRecursion (VariantsDiffer count (here type)) (variants_of b))
      (λ type. each-map (VariantsDiffer count (here type)) there (variant_types b.types) (each-all (λ other. VariantsDiffer count (here type) (there other)) (λ other. inl apart) (variant_types b.types)))
      (variant_types a.types))

  variants-apart : (sorts : List Sort) → AreSorts count sorts → Apart (VariantsDiffer count) (all_variants sorts)
  variants-apart sorts are =
      apart-flat_map (VariantsDiffer count) variants_of SortsDiffer between-sorts sorts (Apart-from_AllPairs SortsDiffer sorts are.0)
      (each-weaker (λ (sort : Sort). TypesRise count sort.types) (λ sort. Apart (VariantsDiffer count) (variants_of sort)) own-variants sorts are.1)

state-kept : (table : Table) (scope : Option Scope) (states : States) (state : StateDecl) → AreSorts (length table.types) states.sorts → AreSorts (length table.types) (keep_state table scope states state).sorts
state-kept table scope states state are = by (place_of_sort states.sorts state.name) refl
  where
    own : Option (List ℕ)
    own = declared_by table scope state.set

    by : (place : Option ℕ) → place_of_sort states.sorts state.name ≡ place → AreSorts (length table.types) (behavior.keep_at place states state own).sorts
    by (Some number) is = are
    by None is = sorts-kept (length table.types) states.sorts state.name own (declared-rise table scope state.set) are

states-apart : (table : Table) (machine : Option Machine) → Apart (VariantsDiffer (length table.types)) (all_variants (states_of table machine).sorts)
states-apart table None = tt
states-apart table (Some machine) =
    let scope = Some (behavior.machine_scope table machine) in
    variants-apart (length table.types) (states_of table (Some machine)).sorts
    (fold-keeps (λ (states : States). AreSorts (length table.types) states.sorts) (keep_state table scope) (state-kept table scope) machine.item.states no_states (no-sorts (length table.types)))

-- what is free has no types
event-rise : (table : Table) (event : EventAt) → TypesRise (length table.types) (event_types table event)
event-rise table event = by (is_free table.profile event.decl.kind)
  where
    by : (free : Bool) → TypesRise (length table.types) (cond free (Some []) (declared_by table event.scope event.decl.set))
    by true = record { each = tt; apart = tt }
    by false = declared-rise table event.scope event.decl.set

event-kept : (table : Table) (events : Events) (event : EventAt) → AreSorts (length table.types) events.sorts → AreSorts (length table.types) (keep_event table events event).sorts
event-kept table events event are = by (place_of_sort events.sorts event.decl.name) refl
  where
    own : Option (List ℕ)
    own = event_types table event

    by : (place : Option ℕ) → place_of_sort events.sorts event.decl.name ≡ place → AreSorts (length table.types) (keep_event_at place events event.decl.name own (is_free table.profile event.decl.kind)).sorts
    by (Some number) is = are
    by None is = sorts-kept (length table.types) events.sorts event.decl.name own (event-rise table event) are

events-apart : (table : Table) (machine : Option Machine) (effective : Effective) → Apart (VariantsDiffer (length table.types)) (all_variants (events_of table machine effective).sorts)
events-apart table machine effective =
    variants-apart (length table.types) (events_of table machine effective).sorts
    (fold-keeps (λ (events : Events). AreSorts (length table.types) events.sorts) (keep_event table) (event-kept table)
    (behavior.machine_events table machine ++ behavior.clause_events table effective) no_events (no-sorts (length table.types)))

-- ---- points

module _ (table : Table) (scopes : List Scope) (items : List (Scoped PointItem)) where
  abbrev count : ℕ
  count = length table.types

  found-rises : (is_open : Bool) (found : Option (Scoped PointItem)) → Rises count (side_with is_open (option_map (propagated table scopes) found))
  found-rises is_open (Some scoped) = set-rises table (slice_get scopes scoped.scope) scoped.item.set
  found-rises true None = tt
  found-rises false None = tt

  sides-rise : (point : OpenPoint) → BothRise count (with_sides table scopes items point)
  sides-rise point = (found-rises point.inward (find (declares false point.name) items), found-rises point.outward (find (declares true point.name) items))

  abbrev AreShaped : List Point → Type 0
  AreShaped points = NamesDiffer (λ point. point.name) points × AllByRecursion (BothRise count) points

  rise-kept : (place : Option ℕ) (points : List Point) (point : Point) → BothRise count point → AllByRecursion (BothRise count) points → AllByRecursion (BothRise count) (keep_at place points point)
  rise-kept (Some number) points point rise all = all
  rise-kept None points point rise all = each-append (BothRise count) points (point ∷ []) all (rise, tt)

  point-kept : (points : List Point) (opened : OpenPoint) → AreShaped points → AreShaped (keep_first points (with_sides table scopes items opened))
  point-kept points opened (differ, rise) = (
    keep-differ (λ (point : Point). point.name) points (with_sides table scopes items opened) (place_named points opened.name) refl differ,
    rise-kept (place_named points opened.name) points (with_sides table scopes items opened) (sides-rise opened) rise,
  )

  points-shaped : (opens : List OpenPoint) → AreShaped (fold keep_first [] (map (with_sides table scopes items) opens))
  points-shaped opens = fold-map-keeps AreShaped keep_first (with_sides table scopes items) point-kept opens [] (none-differ (λ (point : Point). point.name), tt)

-- ---- flows

-- the name of a source without a state is that of its flow
abbrev NamedBy : List ℕ → FlowMeaning → Type 0
NamedBy name (Event own reached) = own ≡ name
NamedBy name (State state reached) = Unit {0}
NamedBy name (Carry start point) = Unit {0}
NamedBy name (Change start point types) = Unit {0}

abbrev PerhapsNamedBy : List ℕ → Option FlowMeaning → Type 0
PerhapsNamedBy name found = AllByRecursion (NamedBy name) (option_to_list found)

state-named : (name : List ℕ) (held : Option Held) (reached : ReachedPoint) → PerhapsNamedBy name (option_map (λ held. State held reached) held)
state-named name None reached = tt
state-named name (Some held) reached = (tt, tt)

source-named : (table : Table) (setting : Setting) (name : List ℕ) (state : Option StateRef) (reached : Option ReachedPoint) → PerhapsNamedBy name (option_and_then (source_meaning table setting name state) reached)
source-named table setting name state None = tt
source-named table setting name None (Some reached) = (refl, tt)
source-named table setting name (Some state) (Some reached) = state-named name (held_in table setting state) reached

way-named : (name : List ℕ) (start : ReachedPoint) (to : ℕ) (types : Reach) → NamedBy name (path_meaning start to types)
way-named name start to Whole = tt
way-named name start to (Only types) = tt

path-named : (name : List ℕ) (start : Option ReachedPoint) (end : Option ReachedPoint) → PerhapsNamedBy name (option_and_then (λ start. option_map (λ (end : ReachedPoint). path_meaning start end.point end.types) end) start)
path-named name None end = tt
path-named name (Some start) None = tt
path-named name (Some start) (Some end) = (way-named name start end.point end.types, tt)

flow-named : (table : Table) (setting : Setting) (name : List ℕ) (flow : FlowKind) → PerhapsNamedBy name (flow_meaning table setting name flow)
flow-named table setting name (kind.Source point set state) = source-named table setting name state (reached_in table setting (point_use point true set))
flow-named table setting name (kind.Sink point set) = tt
flow-named table setting name (kind.Path start from_set end to_set mapping) = path-named name (reached_in table setting (point_use start false from_set)) (reached_in table setting (point_use end true to_set))

named-apart : (a b : List ℕ) (x y : FlowMeaning) → a ≢ b → NamedBy a x → NamedBy b y → SourcesDiffer x y
named-apart a b (Event own reached) (Event other its) apart is also = λ same. apart (sym is ∙ same ∙ also)
named-apart a b (Event own reached) (State state its) apart is also = tt
named-apart a b (Event own reached) (Carry start point) apart is also = tt
named-apart a b (Event own reached) (Change start point types) apart is also = tt
named-apart a b (State state reached) y apart is also = tt
named-apart a b (Carry start point) y apart is also = tt
named-apart a b (Change start point types) y apart is also = tt

one-apart : (found : Option FlowMeaning) → Apart SourcesDiffer (option_to_list found)
one-apart None = tt
one-apart (Some flow) = (tt, tt)

-- flows of different names
abbrev FlowsDiffer : Scoped Flow → Scoped Flow → Type 0
FlowsDiffer a b = a.item.name ≢ b.item.name

-- the meanings of flows whose names differ
sources-apart : (meaning : Scoped Flow → Option FlowMeaning) → ((flow : Scoped Flow) → PerhapsNamedBy flow.item.name (meaning flow)) → (flows : List (Scoped Flow)) → Apart FlowsDiffer flows → Apart SourcesDiffer (flat_map (λ flow. option_to_list (meaning flow)) flows)
sources-apart meaning names flows differ =
    apart-flat_map SourcesDiffer (λ flow. option_to_list (meaning flow)) FlowsDiffer
    (λ x y apart.
    each-weaker (NamedBy x.item.name) (λ a. AllByRecursion (SourcesDiffer a) (option_to_list (meaning y)))
    (λ a is. each-weaker (NamedBy y.item.name) (SourcesDiffer a) (λ b also. named-apart x.item.name y.item.name a b apart is also) (option_to_list (meaning y)) (names y)) (option_to_list (meaning x)) (names x)) flows differ
    (each-all (λ flow. Apart SourcesDiffer (option_to_list (meaning flow))) (λ flow. one-apart (meaning flow)) flows)

-- ---- flows of clauses

abbrev flow_name : Scoped Flow → List ℕ
flow_name scoped = scoped.item.name

abbrev flow_key : Scoped Flow → Option Key
flow_key scoped = Some (named scoped.item.name)

abbrev has : List ℕ → Scoped Flow → Bool
has name flow = goes_by (named name) (flow_key flow)

has-same : (name : List ℕ) (flow : Scoped Flow) → has name flow ≡ true → flow_name flow ≡ name
has-same name flow goes =
    let same : flow_name flow ∷ [] ≡ name ∷ [] = same-name (flow_name flow ∷ []) (name ∷ []) (first_so _ _ (first_so _ _ goes)) in
    cc

same-has : (name : List ℕ) (flow : Scoped Flow) → flow_name flow ≡ name → has name flow ≡ true
same-has name flow same = ap (λ b. (b && true) && true) (name-same (flow_name flow ∷ []) (name ∷ []) (ap (λ n. n ∷ []) same))

abbrev Differ : List (List ℕ) → Type 0
Differ names = Apart (λ a b. a ≢ b) names

-- a flow is put in place of that of its name, or last
put-differ : (flows : List (Scoped Flow)) (flow : Scoped Flow) (place : Option ℕ) → place_by flow_key flows (named (flow_name flow)) ≡ place → Differ (map flow_name flows) → Differ (map flow_name (put_at place flows flow))
put-differ flows flow None none differ =
    let absent : list_any (has (flow_name flow)) flows ≡ false = sym (some-place (has (flow_name flow)) flows) ∙ ap is_some none in
    let apart : AllByRecursion (λ (f : Scoped Flow). flow_name f ≢ flow_name flow) flows =
    recursion_from_All (λ f. flow_name f ≢ flow_name flow) flows (λ k d within same. false≢true (sym absent ∙ list_any_at (has (flow_name flow)) flows k d within (same-has (flow_name flow) (get_or flows k d) same))) in
    subst Differ (sym (map-append flow_name flows (flow ∷ [])))
    (apart-append (λ a b. a ≢ b) (map flow_name flows) (flow_name flow ∷ []) differ (tt, tt) (each-map (λ a. AllByRecursion (λ b. a ≢ b) (flow_name flow ∷ [])) flow_name flows (with-none flows apart)))
  where
    with-none : (xs : List (Scoped Flow)) → AllByRecursion (λ (f : Scoped Flow). flow_name f ≢ flow_name flow) xs → AllByRecursion (λ (f : Scoped Flow). AllByRecursion (λ b. flow_name f ≢ b) (flow_name flow ∷ [])) xs
    with-none [] each = tt
    with-none (x ∷ xs) each = ((each.0, tt), with-none xs each.1)
put-differ flows flow (Some place) there differ =
    let same = has-same (flow_name flow) (get_or flows place flow) (position-Some (has (flow_name flow)) flows place flow there).1 in
    subst Differ (sym (map-set_same flow_name flows place flow flow (sym same))) differ

flows-differ : (clauses : List Clause) → Apart FlowsDiffer (gathered (λ clause. clause.flows) (λ item. Some (named item.name)) clauses)
flows-differ clauses =
    apart-unmap (λ a b. a ≢ b) flow_name (gathered (λ clause. clause.flows) (λ item. Some (named item.name)) clauses)
    (fold-keeps (λ flows. Differ (map flow_name flows)) (put flow_key) (λ flows flow differ. put-differ flows flow (place_by flow_key flows (named (flow_name flow))) refl differ) (numbered_from (scoped_by (λ clause. clause.flows)) 0 clauses) [] tt)

-- ---- models

-- nothing has its shape
pub none-shaped : (most : ℕ) → IsShaped most no_model
none-shaped most = record {
  points = none-differ (λ (point : Point). point.name);
  sides = tt;
  states = tt;
  events = tt;
  sources = tt;
}

-- the error model of a kind has its shape
pub model-shaped : (table : Table) (kinds : List ClassifierId) (id : ClassifierId) → IsShaped (length table.types) (model_of table kinds id)
unfolding model_of effective_of
model-shaped table kinds id =
    let effective = effective_of table.packages id in
    let machine = kind_machine table.packages id in
    let scopes = scopes_of table.packages effective.clauses in
    let shaped = points-shaped table scopes effective.propagations.points (open_points effective) in
    record {
      points = shaped.0;
      sides = shaped.1;
      states = states-apart table machine;
      events = events-apart table machine effective;
      sources = sources-apart
          (λ flow. flow_meaning table (clause_setting (points_of table effective) (states_of table machine).sorts scopes flow.scope) flow.item.name flow.item.kind)
          (λ flow. flow-named table (clause_setting (points_of table effective) (states_of table machine).sorts scopes flow.scope) flow.item.name flow.item.kind) effective.propagations.flows
          (flows-differ (clauses_of (classes_of table.packages (chain_or_none (chain_of table.packages id)))));
    }
