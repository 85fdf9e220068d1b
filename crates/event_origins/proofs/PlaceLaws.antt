-- The declaration of each event of a model has a place.
use Rattle.std.proofs.Common.{ℕ, zero, suc, ◌+◌, ◌≡◌, ◌<◌, Bool, true, false, ◌&&◌, ◌||◌, not, cond, List, [], ◌∷◌, ◌++◌, map, flat_map, find, fold, length, get_or, slice_get, slice_index_or, Option, Some, None, IsSome, option_and_then, option_map, option_to_list, All, refl, sym, ap, ◌∙◌, subst, arith}
use Rattle.std.specs.Bool.{beq}
use Rattle.std.specs.Cmp.{first_so, second_so}
use Rattle.std.specs.List.{AllByRecursion}
use Rattle.std.specs.Option.{option_map_or}
use Rattle.std.proofs.lemmas.Bool.{eqb-true, false≢true}
use Rattle.std.proofs.lemmas.List.{get_or-map}
use Rattle.std.proofs.lemmas.List.Elements.{All-contains, All-from_recursion, All-map}
use Rattle.std.proofs.lemmas.List.Quantifiers.{position-Some}
use Rattle.std.proofs.lemmas.Slice.Eq.{bytes_eq-Decides}
use Rattle.profiles.specs.declared.profile.Profile.{Profile}
use Rattle.aadl_syntax.specs.declared.core_model.PackageUnit.{PackageUnit}
use Rattle.aadl_syntax.specs.declared.error_model.EventDecl.{EventDecl}
use Rattle.aadl_syntax.specs.declared.error_model.Flow.{Flow}
use Rattle.aadl_syntax.specs.declared.error_model.FlowKind.{FlowKind}
use Rattle.aadl_syntax.specs.declared.error_model.FlowKind.TheVariants as kind
use Rattle.aadl_syntax.specs.declared.error_model.PointItem.{PointItem}
use Rattle.aadl_syntax.specs.declared.error_model.StateRef.{StateRef}
use Rattle.plain_values.specs.declared.spot.Spot.{Spot}
use Rattle.plain_values.specs.Numbered.{numbered_from, numbers_below}
use Rattle.package_index.specs.declared.id.ClassifierId.{ClassifierId}
use Rattle.package_index.specs.Names.{only}
use Rattle.component_extension.specs.Chain.{same_id}
use Rattle.component_extension.specs.declared.effective.Effective.{Effective}
use Rattle.component_extension.specs.Items.{Scoped}
use Rattle.error_libraries.specs.declared.scope.Scope.{Scope}
use Rattle.error_libraries.specs.Libraries.{Table}
use Rattle.propagation_points.specs.declared.held.Held.{Held}
use Rattle.propagation_points.specs.declared.side.Reach.{Reach}
use Rattle.propagation_points.specs.declared.side.Reach.TheVariants.{Whole, Only}
use Rattle.propagation_points.specs.declared.side.Side.{Side}
use Rattle.propagation_points.specs.declared.side.Side.TheVariants as side
use Rattle.propagation_points.specs.declared.uses.ReachedPoint.{ReachedPoint}
use Rattle.propagation_points.specs.Points.{OpenPoint, Point, declares, is_text, keep_at, keep_first, open_points, place_named, propagated, scopes_of, side_with, with_sides}
use Rattle.propagation_points.specs.Settings.{Setting, clause_setting, held_in, reached_in}
use Rattle.propagation_points.specs.States.{Sort, Variant, all_variants, declared_by, place_of_sort, variant_types, variants_of}
use Rattle.propagation_points.specs.Uses.{point_use}
use Rattle.error_flows.specs.declared.meaning.FlowMeaning.{FlowMeaning}
use Rattle.error_flows.specs.declared.meaning.FlowMeaning.TheVariants as flow
use Rattle.error_flows.specs.Flows.{flow_meaning, flows_of, path_meaning, source_meaning}
use Rattle.error_machines.specs.Machines.{Machine}
use Rattle.error_machines.specs.declared.states.Events.{Events}
use Rattle.error_machines.specs.States.{EventAt, clause_event, event_at, event_types, events_of as sorts_of_events, is_free, keep_event, keep_event_at, machine_scope, no_events}
use Rattle.error_machines.specs.States as behavior
use Rattle.instantiator.specs.Effectives.{effective_of}
use Rattle.instantiator.specs.Whole.{classifier_at, kind_number, kind_place}
use Rattle.instantiator.proofs.Apart.{each-all, each-append, each-flat_map, each-map, each-unmap, each-weaker}
use Rattle.error_models.specs.declared.model.ErrorModel.{ErrorModel}
use Rattle.error_models.specs.Below.{kind_machine}
use Rattle.error_models.specs.Models.{model_of}
use Rattle.propagation_links.specs.declared.link.Link.{Link}
use Rattle.model_facts.specs.Assembly.{Assembly, assembly_of, kind_model, model_at, no_model, side_numbers}
use Rattle.model_facts.specs.Facts.{arrivals, component_events, event_in, events_of, inward_of, is_linked, model_events, source_events}
use Rattle.model_facts.specs.Names.{own_event_key, point_name, source_name}
use Rattle.model_facts.specs.declared.keys.EventKey.{EventKey}
use Rattle.model_facts.specs.declared.keys.EventKind.{EventKind}
use Rattle.model_facts.specs.declared.keys.EventKind.TheVariants.{Declared, Arrival}
use Rattle.model_facts.proofs.RowLaws.{below-each, each-at, numbered-each}
use Rattle.event_origins.specs.declared.kinds.Declarations.{Declarations}
use Rattle.event_origins.specs.Declarations.{declarations_in, declarations_of, event_declaration, flow_declaration, inward_declaration, machine_events, named_one}
use Rattle.event_origins.specs.Named.{Declaration, has_name, spot_named}
use Rattle.event_origins.specs.Origins.{origin_of, spot_in}
use Rattle.event_origins.specs.inner.Placed.{ArePlaced, EachIsPlaced, HasModelsOfKinds, IsPlaced}

-- ---- declarations of a name

-- among these declarations is one of the name
abbrev pub HasSpot : List Declaration → List ℕ → Type 0
HasSpot list name = IsSome (spot_named list name)

spot-first : (declaration : Declaration) (list : List Declaration) (name : List ℕ) → has_name name declaration ≡ true → HasSpot (declaration ∷ list) name
spot-first declaration list name is = subst (λ b. IsSome (option_map (λ (d : Declaration). d.spot) (cond b (Some declaration) (find (has_name name) list)))) (sym is) refl

spot-more : (declaration : Declaration) (list : List Declaration) (name : List ℕ) → HasSpot list name → HasSpot (declaration ∷ list) name
spot-more declaration list name is = by (has_name name declaration)
  where
    by : (b : Bool) → IsSome (option_map (λ (d : Declaration). d.spot) (cond b (Some declaration) (find (has_name name) list)))
    by true = refl
    by false = is

spot-behind : (front list : List Declaration) (name : List ℕ) → HasSpot list name → HasSpot (front ++ list) name
spot-behind [] list name is = is
spot-behind (declaration ∷ front) list name is = spot-more declaration (front ++ list) name (spot-behind front list name is)

same-itself : (declaration : Declaration) → has_name declaration.name declaration ≡ true
same-itself declaration = (bytes_eq-Decides declaration.name declaration.name).1 refl

-- each declaration of a list is one of its name
spots-each : (list : List Declaration) → AllByRecursion (λ declaration. HasSpot list declaration.name) list
spots-each [] = tt
spots-each (first ∷ list) = (
  spot-first first list first.name (same-itself first),
  each-weaker (λ (declaration : Declaration). HasSpot list declaration.name) (λ declaration. HasSpot (first ∷ list) declaration.name) (λ declaration is. spot-more first list declaration.name is) list (spots-each list),
)

module _ {A : Type 0} (P : A → Type 0) where
  each-front : (xs ys : List A) → AllByRecursion P (xs ++ ys) → AllByRecursion P xs
  each-front [] ys each = tt
  each-front (x ∷ xs) ys each = (each.0, each-front xs ys each.1)

  each-back : (xs ys : List A) → AllByRecursion P (xs ++ ys) → AllByRecursion P ys
  each-back [] ys each = each
  each-back (x ∷ xs) ys each = each-back xs ys each.1

-- ---- error events

module _ (Named : List ℕ → Type 0) where
  sort-kept : (place : Option ℕ) (sorts : List Sort) (one : Sort) → Named one.name → AllByRecursion (λ sort. Named sort.name) sorts → AllByRecursion (λ sort. Named sort.name) (keep_at place sorts one)
  sort-kept (Some number) sorts one is each = each
  sort-kept None sorts one is each = each-append (λ (sort : Sort). Named sort.name) sorts (one ∷ []) each (is, tt)

  -- the events have the names of those that are declared
  event-named : (place : Option ℕ) (events : Events) (name : List ℕ) (types : Option (List ℕ)) (free : Bool) → Named name → AllByRecursion (λ sort. Named sort.name) events.sorts → AllByRecursion (λ sort. Named sort.name) (keep_event_at place events name types free).sorts
  event-named (Some number) events name types free is each = each
  event-named None events name types free is each =
      sort-kept (place_of_sort events.sorts name) events.sorts (record { name = name; first = length (all_variants events.sorts); types = types }) is each

  sorts-named : (table : Table) (events : List EventAt) (kept : Events) → AllByRecursion (λ event. Named event.decl.name) events → AllByRecursion (λ sort. Named sort.name) kept.sorts → AllByRecursion (λ sort. Named sort.name) (fold (keep_event table) kept events).sorts
  sorts-named table [] kept names each = each
  sorts-named table (event ∷ events) kept names each =
      sorts-named table events (keep_event table kept event) names.1
      (event-named (place_of_sort kept.sorts event.decl.name) kept event.decl.name (event_types table event) (is_free table.profile event.decl.kind) names.0 each)

  -- a variant has the name of its event
  variants-named : (sorts : List Sort) → AllByRecursion (λ sort. Named sort.name) sorts → AllByRecursion (λ variant. Named variant.name) (all_variants sorts)
  variants-named sorts each =
      each-flat_map (λ (variant : Variant). Named variant.name) variants_of sorts
      (each-weaker (λ (sort : Sort). Named sort.name) (λ sort. AllByRecursion (λ (variant : Variant). Named variant.name) (variants_of sort))
      (λ sort is. each-map (λ (variant : Variant). Named variant.name) (λ type. record { name = sort.name; type = type }) (variant_types sort.types) (each-all (λ type. Named sort.name) (λ type. is) (variant_types sort.types))) sorts each)

  name-at : (variants : List Variant) (number : ℕ) → number < length variants → AllByRecursion (λ variant. Named variant.name) variants → Named (option_map_or (λ variant. variant.name) (slice_get variants number) [])
  name-at [] number within each = absurd (omega (arith, within))
  name-at (variant ∷ variants) zero within each = each.0
  name-at (variant ∷ variants) (suc number) within each = name-at variants number (omega (arith, within)) each.1

-- ---- sources

module _ (Named : List ℕ → Type 0) where
  -- a source without a state has a name of which there is a declaration
  abbrev IsNamedFlow : FlowMeaning → Type 0
  IsNamedFlow (flow.Event name reached) = Named name
  IsNamedFlow (flow.State state reached) = Unit {0}
  IsNamedFlow (flow.Carry start point) = Unit {0}
  IsNamedFlow (flow.Change start point types) = Unit {0}

  abbrev ArePerhaps : Option FlowMeaning → Type 0
  ArePerhaps found = AllByRecursion IsNamedFlow (option_to_list found)

  state-named : (held : Option Held) (reached : ReachedPoint) → ArePerhaps (option_map (λ held. flow.State held reached) held)
  state-named None reached = tt
  state-named (Some held) reached = (tt, tt)

  source-named : (table : Table) (setting : Setting) (name : List ℕ) → Named name → (state : Option StateRef) (reached : Option ReachedPoint) → ArePerhaps (option_and_then (source_meaning table setting name state) reached)
  source-named table setting name is state None = tt
  source-named table setting name is None (Some reached) = (is, tt)
  source-named table setting name is (Some state) (Some reached) = state-named (held_in table setting state) reached

  way-named : (start : ReachedPoint) (to : ℕ) (types : Reach) → IsNamedFlow (path_meaning start to types)
  way-named start to Whole = tt
  way-named start to (Only types) = tt

  path-named : (start : Option ReachedPoint) (end : Option ReachedPoint) → ArePerhaps (option_and_then (λ start. option_map (λ (end : ReachedPoint). path_meaning start end.point end.types) end) start)
  path-named None end = tt
  path-named (Some start) None = tt
  path-named (Some start) (Some end) = (way-named start end.point end.types, tt)

  flow-named : (table : Table) (setting : Setting) (name : List ℕ) → Named name → (meant : FlowKind) → ArePerhaps (flow_meaning table setting name meant)
  flow-named table setting name is (kind.Source point set state) = source-named table setting name is state (reached_in table setting (point_use point true set))
  flow-named table setting name is (kind.Sink point set) = tt
  flow-named table setting name is (kind.Path start from_set end to_set mapping) = path-named (reached_in table setting (point_use start false from_set)) (reached_in table setting (point_use end true to_set))

-- ---- what arrives

-- where types are declared for a side, its point has this
abbrev IfDeclared : Side → Type 0 → Type 0
IfDeclared side.Absent so = Unit {0}
IfDeclared side.Free so = Unit {0}
IfDeclared (side.Declared types) so = so

abbrev inward_among : List (Scoped PointItem) → List Declaration
inward_among items = flat_map (λ scoped. inward_declaration scoped.item) items

spot-inward : (name : List ℕ) (outward negative : Bool) (own : Option (List ℕ)) (spot : Spot) (list : List Declaration) → ((beq outward false && not negative) && is_text name own) ≡ true → HasSpot (cond (outward || negative) [] (named_one own spot) ++ list) name
spot-inward name true negative own spot list is = absurd (false≢true is)
spot-inward name false true own spot list is = absurd (false≢true is)
spot-inward name false false None spot list is = absurd (false≢true is)
spot-inward name false false (Some other) spot list is = spot-first (record { name = other; spot = spot }) list name is

module _ (table : Table) (scopes : List Scope) (is_open : Bool) (name : List ℕ) where
  -- where this propagation declares the types of the inward side, there is a declaration
  abbrev IsSpotFor : List Declaration → Option (Scoped PointItem) → Type 0
  IsSpotFor list found = IfDeclared (side_with is_open (option_map (propagated table scopes) found)) (HasSpot list name)

  spot-none : (list : List Declaration) → IsSpotFor list None
  spot-none list = by is_open
    where
      by : (b : Bool) → IfDeclared (side_with b None) (HasSpot list name)
      by true = tt
      by false = tt

  spot-later : (front list : List Declaration) (found : Option (Scoped PointItem)) → IsSpotFor list found → IsSpotFor (front ++ list) found
  spot-later front list (Some scoped) is = spot-behind front list name is
  spot-later front list None is = spot-none (front ++ list)

  spot-found : (first : Scoped PointItem) (items : List (Scoped PointItem)) (b : Bool) → declares false name first ≡ b → IsSpotFor (inward_among items) (find (declares false name) items) → IsSpotFor (inward_among (first ∷ items)) (cond b (Some first) (find (declares false name) items))
  spot-found first items true is later = spot-inward name first.item.outward first.item.negative (only first.item.point.names) first.item.point.spot (inward_among items) is
  spot-found first items false is later = spot-later (inward_declaration first.item) (inward_among items) (find (declares false name) items) later

  declared-spot : (items : List (Scoped PointItem)) → IsSpotFor (inward_among items) (find (declares false name) items)
  declared-spot [] = spot-none []
  declared-spot (first ∷ items) = spot-found first items (declares false name first) refl (declared-spot items)

module _ (table : Table) (scopes : List Scope) (items : List (Scoped PointItem)) where
  -- the point has a declaration where types are declared for its inward side
  abbrev IsNamedPoint : Point → Type 0
  IsNamedPoint point = IfDeclared point.inward (HasSpot (inward_among items) point.name)

  point-kept : (place : Option ℕ) (points : List Point) (point : Point) → IsNamedPoint point → AllByRecursion IsNamedPoint points → AllByRecursion IsNamedPoint (keep_at place points point)
  point-kept (Some number) points point is each = each
  point-kept None points point is each = each-append IsNamedPoint points (point ∷ []) each (is, tt)

  points-named : (opens : List OpenPoint) (points : List Point) → AllByRecursion IsNamedPoint points → AllByRecursion IsNamedPoint (fold keep_first points (map (with_sides table scopes items) opens))
  points-named [] points each = each
  points-named (one ∷ opens) points each =
      points-named opens (keep_first points (with_sides table scopes items one))
      (point-kept (place_named points one.name) points (with_sides table scopes items one) (declared-spot table scopes one.inward one.name items) each)

-- ---- the events of a component

module _ (types : Table) (declarations : Declarations) (model : ErrorModel) where
  -- the declaration of an event of a component with this model has a place
  abbrev pub HasOrigin : EventKind → Type 0
  HasOrigin event = IsSome (spot_in declarations event (own_event_key types model event))

  source-placed : (n i : ℕ) (one : FlowMeaning) → n ≡ 0 + i → slice_get model.flows i ≡ Some one → IsNamedFlow (HasSpot declarations.flows) one → AllByRecursion HasOrigin (source_events n one)
  source-placed n i (flow.Event name reached) is at named =
      let same : n ≡ i = omega (arith, is) in
      let own : source_name (slice_get model.flows n) ≡ name = ap (λ k. source_name (slice_get model.flows k)) same ∙ ap source_name at in
      (subst (HasSpot declarations.flows) (sym own) named, tt)
  source-placed n i (flow.State state reached) is at named = tt
  source-placed n i (flow.Carry start point) is at named = tt
  source-placed n i (flow.Change start point numbers) is at named = tt

  side-placed : (n : ℕ) (inward : Side) → IfDeclared inward (HasSpot declarations.inward (point_name model n)) → AllByRecursion HasOrigin (map (Arrival n) (side_numbers inward))
  side-placed n side.Absent is = tt
  side-placed n side.Free is = tt
  side-placed n (side.Declared numbers) is = each-map HasOrigin (Arrival n) numbers (each-all (λ type. HasSpot declarations.inward (point_name model n)) (λ type. is) numbers)

  arrival-placed : (links : List Link) (component n i : ℕ) (point : Point) → n ≡ 0 + i → slice_get model.points i ≡ Some point → IfDeclared point.inward (HasSpot declarations.inward point.name) → AllByRecursion HasOrigin (arrivals links component n point)
  arrival-placed links component n i point is at named = by (is_linked links (inward_of component n))
    where
      own : point_name model n ≡ point.name
      own =
          let same : n ≡ i = omega (arith, is) in
          ap (point_name model) same ∙ ap (λ found. option_map_or (λ (point : Point). point.name) found []) at

      by : (b : Bool) → AllByRecursion HasOrigin (cond b [] (map (Arrival n) (side_numbers point.inward)))
      by true = tt
      by false = side-placed n point.inward (subst (λ name. IfDeclared point.inward (HasSpot declarations.inward name)) (sym own) named)

  events-placed : AllByRecursion (λ variant. HasSpot declarations.events variant.name) (all_variants model.behavior.events) → AllByRecursion (IsNamedFlow (HasSpot declarations.flows)) model.flows
      → AllByRecursion (λ (point : Point). IfDeclared point.inward (HasSpot declarations.inward point.name)) model.points → (links : List Link) (component : ℕ) → AllByRecursion HasOrigin (model_events links component model)
  events-placed variants flows points links component =
      let declared = numbers_below (length (all_variants model.behavior.events)) in
      let sources = numbered_from source_events 0 model.flows in
      let arriving = numbered_from (arrivals links component) 0 model.points in
      each-append HasOrigin (map Declared declared) (sources ++ arriving)
      (each-map HasOrigin Declared declared (below-each (λ number. HasOrigin (Declared number)) (length (all_variants model.behavior.events)) (λ number within. name-at (HasSpot declarations.events) (all_variants model.behavior.events) number within variants)))
      (each-append HasOrigin sources arriving
      (numbered-each source_events HasOrigin 0 model.flows (λ n i one is at. source-placed n i one is at (each-at (IsNamedFlow (HasSpot declarations.flows)) model.flows i one flows at)))
      (numbered-each (arrivals links component) HasOrigin 0 model.points
      (λ n i point is at. arrival-placed links component n i point is at (each-at (λ (point : Point). IfDeclared point.inward (HasSpot declarations.inward point.name)) model.points i point points at))))

module _ (table : Table) (machine : Option Machine) (effective : Effective) where
  abbrev all_events : List Declaration
  all_events = (declarations_in machine effective).events

  abbrev IsEventNamed : List ℕ → Type 0
  IsEventNamed name = HasSpot all_events name

  abbrev clause_declaration : Scoped EventDecl → Declaration
  clause_declaration scoped = event_declaration scoped.item

  of-machine : (used : Option Machine) → AllByRecursion (λ (event : EventDecl). IsEventNamed event.name) (machine_events used) → AllByRecursion (λ (event : EventAt). IsEventNamed event.decl.name) (behavior.machine_events table used)
  of-machine None each = tt
  of-machine (Some one) each = each-map (λ (event : EventAt). IsEventNamed event.decl.name) (event_at (Some (machine_scope table one))) one.item.events each

  own-named : AllByRecursion (λ (event : EventDecl). IsEventNamed event.name) (machine_events machine)
  own-named =
      each-unmap (λ (declaration : Declaration). IsEventNamed declaration.name) event_declaration (machine_events machine)
      (each-front (λ (declaration : Declaration). IsEventNamed declaration.name) (map event_declaration (machine_events machine)) (map clause_declaration effective.behavior.events) (spots-each all_events))

  of-clauses : AllByRecursion (λ (event : EventAt). IsEventNamed event.decl.name) (behavior.clause_events table effective)
  of-clauses =
      each-map (λ (event : EventAt). IsEventNamed event.decl.name) (clause_event (scopes_of table.packages effective.clauses)) effective.behavior.events
      (each-unmap (λ (declaration : Declaration). IsEventNamed declaration.name) clause_declaration effective.behavior.events
      (each-back (λ (declaration : Declaration). IsEventNamed declaration.name) (map event_declaration (machine_events machine)) (map clause_declaration effective.behavior.events) (spots-each all_events)))

  -- each error event of a component has the name of a declaration
  events-named : AllByRecursion (λ sort. IsEventNamed sort.name) (sorts_of_events table machine effective).sorts
  events-named =
      sorts-named IsEventNamed table (behavior.machine_events table machine ++ behavior.clause_events table effective) no_events
      (each-append (λ (event : EventAt). IsEventNamed event.decl.name) (behavior.machine_events table machine) (behavior.clause_events table effective) (of-machine machine own-named) of-clauses) tt

-- those of its flows have the names of its sources without a state
flows-named : (table : Table) (points : List Point) (states : List Sort) (machine : Option Machine) (effective : Effective) → AllByRecursion (IsNamedFlow (HasSpot (declarations_in machine effective).flows)) (flows_of table points states effective)
flows-named table points states machine effective =
    let all = (declarations_in machine effective).flows in
    let flows = effective.propagations.flows in
    let setting : Scoped Flow → Setting = λ scoped. clause_setting points states (scopes_of table.packages effective.clauses) scoped.scope in
    each-flat_map (IsNamedFlow (HasSpot all)) (λ (scoped : Scoped Flow). option_to_list (flow_meaning table (setting scoped) scoped.item.name scoped.item.kind)) flows
    (each-weaker (λ (scoped : Scoped Flow). HasSpot all scoped.item.name) (λ scoped. ArePerhaps (HasSpot all) (flow_meaning table (setting scoped) scoped.item.name scoped.item.kind))
    (λ scoped is. flow-named (HasSpot all) table (setting scoped) scoped.item.name is scoped.item.kind) flows
    (each-unmap (λ (declaration : Declaration). HasSpot all declaration.name) (λ (scoped : Scoped Flow). flow_declaration scoped.item) flows (spots-each all)))

-- ---- the model of a kind

-- each event of a component of a classifier has a place among the declarations of the classifier
pub kind-placed : (types : Table) (kinds : List ClassifierId) (id : ClassifierId) (links : List Link) (component : ℕ)
    → AllByRecursion (HasOrigin types (declarations_of types.packages id) (model_of types kinds id)) (model_events links component (model_of types kinds id))
unfolding model_of kind_machine
kind-placed types kinds id links component =
    let effective = effective_of types.packages id in
    let machine = kind_machine types.packages id in
    let model = model_of types kinds id in
    let declarations = declarations_in machine effective in
    events-placed types declarations model (variants-named (HasSpot declarations.events) model.behavior.events (events-named types machine effective)) (flows-named types model.points model.states.sorts machine effective)
    (points-named types (scopes_of types.packages effective.clauses) effective.propagations.points (open_points effective) [] tt) links component

-- ---- a model

same-is : (a b : ClassifierId) → same_id a b ≡ true → a ≡ b
same-is a b same =
    let home : a.«package» ≡ b.«package» = eqb-true a.«package» b.«package» (first_so _ _ same) in
    let decl : a.decl ≡ b.decl = eqb-true a.decl b.decl (second_so _ _ same) in
    λ i. record { «package» = home i; decl = decl i }

module _ (assembly : Assembly) (own : HasModelsOfKinds assembly) where
  abbrev kinds : List ClassifierId
  kinds = assembly.instance.kinds

  abbrev HasOwn : Option ClassifierId → ErrorModel → EventKind → Type 0
  HasOwn classifier model event = IsSome (option_and_then (λ id. spot_in (declarations_of assembly.instance.packages id) event (own_event_key assembly.types model event)) classifier)

  abbrev AllHave : ℕ → Option ClassifierId → ErrorModel → Type 0
  AllHave n classifier model = AllByRecursion (HasOwn classifier model) (model_events assembly.links n model)

  -- the model of a kind is that of its classifier
  kind-is : (id : ClassifierId) (number : ℕ) → kind_place kinds id ≡ Some number → slice_index_or assembly.models number no_model ≡ model_of assembly.types kinds id
  kind-is id number is =
      let place = position-Some (λ kind. same_id kind id) kinds number id is in
      ap (λ models. slice_index_or models number no_model) own.models ∙ get_or-map (model_of assembly.types kinds) kinds number id no_model place.0 ∙ ap (model_of assembly.types kinds) (same-is (get_or kinds number id) id place.1)

  of-place : (n : ℕ) (id : ClassifierId) (number : Option ℕ) → kind_place kinds id ≡ number → AllHave n (Some id) (kind_model assembly.models number)
  of-place n id None is = tt
  of-place n id (Some number) is =
      subst (AllHave n (Some id)) (sym (kind-is id number is))
      (subst (λ packages. AllByRecursion (HasOrigin assembly.types (declarations_of packages id) (model_of assembly.types kinds id)) (model_events assembly.links n (model_of assembly.types kinds id))) own.packages (kind-placed assembly.types kinds id assembly.links n))

  of-classifier : (n : ℕ) (classifier : Option ClassifierId) → AllHave n classifier (kind_model assembly.models (kind_number kinds classifier))
  of-classifier n None = tt
  of-classifier n (Some id) = of-place n id (kind_place kinds id) refl

  each-placed : AllByRecursion (λ event. IsPlaced (origin_of assembly event)) (events_of assembly)
  each-placed =
      numbered-each (component_events assembly) (λ (event : EventKey). IsPlaced (origin_of assembly event)) 0 assembly.instance.components
      (λ n i component is at. each-map (λ (event : EventKey). IsPlaced (origin_of assembly event)) (event_in n) (model_events assembly.links n (model_at assembly n)) (of-classifier n (classifier_at assembly.instance n)))

  -- each event of a model has a place
  pub all-placed : All (λ event. IsPlaced (origin_of assembly event)) (events_of assembly)
  all-placed = All-from_recursion (λ (event : EventKey). IsPlaced (origin_of assembly event)) (events_of assembly) each-placed

-- the origins of events of a model have a place each
pub origins-placed : (assembly : Assembly) (events : List EventKey) → ArePlaced assembly events (map (origin_of assembly) events)
origins-placed assembly events own among =
    All-map IsPlaced (origin_of assembly) events
    (λ i d within. All-contains (λ (event : EventKey). IsPlaced (origin_of assembly event)) (events_of assembly) (get_or events i d) (all-placed assembly own) (among i d within))

-- the same of the model of a root
pub root-placed : (profile : Profile) (packages : List PackageUnit) (root : ClassifierId) → EachIsPlaced profile packages root
root-placed profile packages root = all-placed (assembly_of profile packages root) (record { packages = refl; models = refl })
