-- No two facts and no two events of a model have one name.
use Rattle.std.proofs.Common.{ℕ, zero, suc, ◌+◌, ◌<◌, ◌≡◌, ◌≢◌, inl, inr, Bool, true, false, cond, List, [], ◌∷◌, ◌++◌, map, length, slice_get, slice_index_or, Option, Some, None, refl, sym, ap, ◌∙◌, subst, arith}
use Rattle.std.specs.List.{AllByRecursion}
use Rattle.std.specs.Option.{option_map_or}
use Rattle.std.specs.Prelude.{codes}
use Rattle.std.proofs.lemmas.List.{append-nil, append_cancel_left, append_cancel_right}
use Rattle.std.proofs.lemmas.Option.{get_or_from_slice_get, slice_get_within}
use Rattle.aadl_syntax.specs.inner.Token.{IsIdentifier}
use Rattle.error_libraries.specs.Libraries.{Table}
use Rattle.plain_values.specs.Numbered.{numbers_below, numbered_from}
use Rattle.propagation_points.specs.declared.side.Side.{Side}
use Rattle.propagation_points.specs.declared.side.Side.TheVariants.{Absent, Free}
use Rattle.propagation_points.specs.declared.side.Side.TheVariants as side
use Rattle.propagation_points.specs.Points.{Point}
use Rattle.propagation_points.specs.inner.Points.{NamesDiffer}
use Rattle.propagation_points.specs.States.{Sort, Variant, all_variants}
use Rattle.propagation_points.specs.Uses.{side_types}
use Rattle.error_flows.specs.declared.meaning.FlowMeaning.{FlowMeaning}
use Rattle.error_flows.specs.declared.meaning.FlowMeaning.TheVariants as flow
use Rattle.instantiator.specs.declared.path.Component.{Component}
use Rattle.instantiator.specs.inner.Whole.{PathsDiffer}
use Rattle.instantiator.proofs.Apart.{Apart, AllPairs-from_Apart, apart-append, apart-map, apart-weaker, each-all, each-append, each-map, each-weaker}
use Rattle.error_models.specs.declared.model.ErrorModel.{ErrorModel}
use Rattle.propagation_links.specs.declared.link.Link.{Link}
use Rattle.model_facts.specs.Assembly.{Assembly, model_at, side_numbers}
use Rattle.model_facts.specs.Facts.{arrivals, component_events, component_facts, event_in, events_of, fact_in, facts_of, inward_of, is_linked, model_events, model_facts, point_facts, source_events}
use Rattle.model_facts.specs.Laws.{Lacks}
use Rattle.model_facts.specs.inner.Laws.{AreNamed, IsNamed}
use Rattle.model_facts.specs.Names.{at_point, behind, event_name, fact_name, in_braces, own_event_name, own_fact_name, path_at, path_text, point_name, source_name, type_text, variant_name, variant_text}
use Rattle.model_facts.specs.declared.keys.EventKey.{EventKey}
use Rattle.model_facts.specs.declared.keys.EventKind.{EventKind}
use Rattle.model_facts.specs.declared.keys.EventKind.TheVariants.{Declared, Source, Arrival}
use Rattle.model_facts.specs.declared.keys.FactKey.{FactKey}
use Rattle.model_facts.specs.declared.keys.FactKind.{FactKind}
use Rattle.model_facts.specs.declared.keys.FactKind.TheVariants.{State, Enters, Exits}
use Rattle.model_facts.proofs.RowLaws.{IsRising, below-apart, each-at, numbered-apart, numbered-each, rising-apart, rising-none}
use Rattle.model_facts.proofs.ShapeLaws.{BothRise, IsEarlier, IsShaped, Rises, SourcesDiffer, VariantsDiffer}
use Rattle.model_facts.proofs.TextLaws.{IsForeign, behind-same, heads, identifier-lacks, lacks-by, no-byte, no-fronts, up-to}

-- ---- bytes

brace : IsForeign 123
brace = record { letter = refl; other = refl; line = refl }

colon : IsForeign 58
colon = record { letter = refl; other = refl; line = refl }

-- ---- items of different names

differ-at : {Item : Type 0} (name_of : Item → List ℕ) (items : List Item) (i j : ℕ) (x y : Item) → NamesDiffer name_of items → i < j → slice_get items i ≡ Some x → slice_get items j ≡ Some y → name_of x ≢ name_of y
differ-at name_of items i j x y differ less at there same =
    differ i j x less (slice_get_within items j y there) (ap name_of (get_or_from_slice_get items i x x at) ∙ same ∙ ap name_of (sym (get_or_from_slice_get items j y x there)))

apart-at : {Item : Type 0} (R : Item → Item → Type 0) (items : List Item) (i j : ℕ) (x y : Item) → Apart R items → i < j → slice_get items i ≡ Some x → slice_get items j ≡ Some y → R x y
apart-at R items i j x y apart less at there =
    let all = AllPairs-from_Apart R items apart i j x less (slice_get_within items j y there) in
    let first = subst (λ a. R a (slice_index_or items j x)) (get_or_from_slice_get items i x x at) all in
    subst (R x) (get_or_from_slice_get items j y x there) first

-- the item of a number
item-at : {Item : Type 0} (items : List Item) (n : ℕ) → n < length items → (item : Item) × (slice_get items n ≡ Some item)
item-at [] n within = absurd (omega (arith, within))
item-at (item ∷ items) zero within = (item, refl)
item-at (item ∷ items) (suc n) within = item-at items n (omega (arith, within))

-- ---- in one model

-- Types of different numbers print differently.
abbrev pub PrintsApart : Table → Type 0
PrintsApart types = (a b : ℕ) → a < b → b < length types.types → type_text types a ≢ type_text types b

module _ (types : Table) (apart : PrintsApart types) (model : ErrorModel) (named : IsNamed model) (shaped : IsShaped (length types.types) model) where
  abbrev count : ℕ
  count = length types.types

  name-lacks : (byte : ℕ) → IsForeign byte → (point : ℕ) → Lacks byte (point_name model point)
  name-lacks byte foreign point = by (slice_get model.points point) refl
    where
      by : (found : Option Point) → slice_get model.points point ≡ found → Lacks byte (option_map_or (λ point. point.name) found [])
      by None at = tt
      by (Some one) at = identifier-lacks byte foreign one.name (each-at (λ (point : Point). IsIdentifier point.name) model.points point one named.points at)

  -- a type at a point tells the name of the point, and how the type prints
  point-same : (p q t u : ℕ) → at_point types model p t ≡ at_point types model q u → (point_name model p ≡ point_name model q) × (type_text types t ≡ type_text types u)
  point-same p q t u same =
      let both = up-to 123 (point_name model p) (point_name model q) (type_text types t ++ codes "}") (type_text types u ++ codes "}") (name-lacks 123 brace p) (name-lacks 123 brace q) same in
      (both.0, append_cancel_right (type_text types t) (type_text types u) (codes "}") both.1)

  name-at : (n : ℕ) (point : Point) → slice_get model.points n ≡ Some point → point_name model n ≡ point.name
  name-at n point at = ap (λ found. option_map_or (λ (point : Point). point.name) found []) at

  points-apart : (m n i j p q t u : ℕ) (x y : Point) → m ≡ 0 + i → n ≡ 0 + j → i < j → slice_get model.points i ≡ Some x → slice_get model.points j ≡ Some y → p ≡ m → q ≡ n → at_point types model p t ≢ at_point types model q u
  points-apart m n i j p q t u x y first second less at there is also same =
      let a : p ≡ i = omega (arith, first, is) in
      let b : q ≡ j = omega (arith, second, also) in
      let name = (point-same p q t u same).0 in
      differ-at (λ (point : Point). point.name) model.points i j x y shaped.points less at there
      (sym (name-at i x at) ∙ ap (point_name model) (sym a) ∙ name ∙ ap (point_name model) b ∙ name-at j y there)

  side-rising : (universe : List ℕ) → IsRising count universe → (one : Side) → Rises count one → IsRising count (side_types universe one)
  side-rising universe rising Absent rise = rising-none count
  side-rising universe rising Free rise = rising
  side-rising universe rising (side.Declared numbers) rise = rise

  -- ---- variants

  -- the name of a variant tells the name before the brace
  variant-same : (a b : Variant) → IsIdentifier a.name → IsIdentifier b.name → variant_text types a ≡ variant_text types b → (a.name ≡ b.name) × (option_map_or (in_braces types) a.type [] ≡ option_map_or (in_braces types) b.type [])
  variant-same a b first second = by a.type b.type
    where
      by : (t u : Option ℕ) → a.name ++ option_map_or (in_braces types) t [] ≡ b.name ++ option_map_or (in_braces types) u [] → (a.name ≡ b.name) × (option_map_or (in_braces types) t [] ≡ option_map_or (in_braces types) u [])
      by None None same = (sym (append-nil a.name) ∙ same ∙ append-nil b.name, refl)
      by None (Some u) same = absurd (no-byte 123 a.name b.name (type_text types u ++ codes "}") (identifier-lacks 123 brace a.name first) (sym (append-nil a.name) ∙ same))
      by (Some t) None same = absurd (no-byte 123 b.name a.name (type_text types t ++ codes "}") (identifier-lacks 123 brace b.name second) (sym (append-nil b.name) ∙ sym same))
      by (Some t) (Some u) same =
          let both = up-to 123 a.name b.name (type_text types t ++ codes "}") (type_text types u ++ codes "}") (identifier-lacks 123 brace a.name first) (identifier-lacks 123 brace b.name second) same in
          (both.0, ap (λ text. 123 ∷ text) both.1)

  -- types in braces tell how the types print
  earlier-apart : (t u : Option ℕ) → IsEarlier count t u → option_map_or (in_braces types) t [] ≢ option_map_or (in_braces types) u []
  earlier-apart None u earlier same = absurd earlier
  earlier-apart (Some t) None earlier same = absurd earlier
  earlier-apart (Some t) (Some u) earlier same =
      apart t u earlier.0 earlier.1 (append_cancel_right (type_text types t) (type_text types u) (codes "}") (append_cancel_left (codes "{") (type_text types t ++ codes "}") (type_text types u ++ codes "}") same))

  variants-apart : (a b : Variant) → IsIdentifier a.name → IsIdentifier b.name → VariantsDiffer count a b → variant_text types a ≢ variant_text types b
  variants-apart a b first second differ same =
      let both = variant-same a b first second same in
      elim differ [
        | inl names ↦ names both.0
        | inr earlier ↦ earlier-apart a.type b.type earlier both.1
      ]

  module _ (sorts : List Sort) (words : AllByRecursion (λ variant. IsIdentifier variant.name) (all_variants sorts)) where
    word-at : (n : ℕ) (variant : Variant) → slice_get (all_variants sorts) n ≡ Some variant → IsIdentifier variant.name
    word-at n variant at = each-at (λ (variant : Variant). IsIdentifier variant.name) (all_variants sorts) n variant words at

    text-at : (n : ℕ) (variant : Variant) → slice_get (all_variants sorts) n ≡ Some variant → variant_name types sorts n ≡ variant_text types variant
    text-at n variant at = ap (λ found. option_map_or (variant_text types) found []) at

    numbers-apart : Apart (VariantsDiffer count) (all_variants sorts) → (i j : ℕ) → i < j → j < length (all_variants sorts) → variant_name types sorts i ≢ variant_name types sorts j
    numbers-apart differ i j less within same =
        let a = item-at (all_variants sorts) i (omega (arith, less, within)) in
        let b = item-at (all_variants sorts) j within in
        variants-apart a.0 b.0 (word-at i a.0 a.1) (word-at j b.0 b.1) (apart-at (VariantsDiffer count) (all_variants sorts) i j a.0 b.0 differ less a.1 b.1)
        (sym (text-at i a.0 a.1) ∙ same ∙ text-at j b.0 b.1)

    -- before a colon in the name of a variant stands a brace
    no-word : (n : ℕ) (word rest : List ℕ) → Lacks 123 word → variant_name types sorts n ≡ word ++ 58 ∷ rest → ⊥
    no-word n word rest lacks = by (slice_get (all_variants sorts) n) refl
      where
        own : (variant : Variant) → IsIdentifier variant.name → (type : Option ℕ) → variant.name ++ option_map_or (in_braces types) type [] ≡ word ++ 58 ∷ rest → ⊥
        own variant form None same = no-byte 58 variant.name word rest (identifier-lacks 58 colon variant.name form) (sym (append-nil variant.name) ∙ same)
        own variant form (Some type) same = no-fronts 123 58 variant.name word (type_text types type ++ codes "}") rest refl (identifier-lacks 58 colon variant.name form) lacks same

        by : (found : Option Variant) → slice_get (all_variants sorts) n ≡ found → option_map_or (variant_text types) found [] ≡ word ++ 58 ∷ rest → ⊥
        by None at same = no-byte 58 [] word rest tt same
        by (Some variant) at same = own variant (word-at n variant at) variant.type same

  -- ---- facts

  abbrev FactsDiffer : FactKind → FactKind → Type 0
  FactsDiffer a b = own_fact_name types model a ≢ own_fact_name types model b

  abbrev AtPoint : ℕ → FactKind → Type 0
  AtPoint n (State state) = ⊥
  AtPoint n (Enters point type) = point ≡ n
  AtPoint n (Exits point type) = point ≡ n

  in-out : (p q t u : ℕ) → codes "in:" ++ at_point types model p t ≡ codes "out:" ++ at_point types model q u → ⊥
  in-out p q t u same = heads 105 111 _ _ refl same

  facts-between : (m n i j : ℕ) (x y : Point) (a b : FactKind) → m ≡ 0 + i → n ≡ 0 + j → i < j → slice_get model.points i ≡ Some x → slice_get model.points j ≡ Some y → AtPoint m a → AtPoint n b → FactsDiffer a b
  facts-between m n i j x y (State state) b first second less at there is also same = absurd is
  facts-between m n i j x y (Enters p t) (State state) first second less at there is also same = absurd also
  facts-between m n i j x y (Enters p t) (Enters q u) first second less at there is also same =
      points-apart m n i j p q t u x y first second less at there is also (append_cancel_left (codes "in:") (at_point types model p t) (at_point types model q u) same)
  facts-between m n i j x y (Enters p t) (Exits q u) first second less at there is also same = in-out p q t u same
  facts-between m n i j x y (Exits p t) (State state) first second less at there is also same = absurd also
  facts-between m n i j x y (Exits p t) (Enters q u) first second less at there is also same = in-out q p u t (sym same)
  facts-between m n i j x y (Exits p t) (Exits q u) first second less at there is also same =
      points-apart m n i j p q t u x y first second less at there is also (append_cancel_left (codes "out:") (at_point types model p t) (at_point types model q u) same)

  state-point : (n state : ℕ) (b : FactKind) → AtPoint n b → FactsDiffer (State state) b
  state-point n state (State other) is same = absurd is
  state-point n state (Enters p t) is same = heads 115 105 _ _ refl same
  state-point n state (Exits p t) is same = heads 115 111 _ _ refl same

  module _ (universe : List ℕ) (rising : IsRising count universe) where
    from-point : (n : ℕ) (point : Point) → AllByRecursion (AtPoint n) (point_facts universe n point)
    from-point n point =
        each-append (AtPoint n) (map (Enters n) (side_types universe point.inward)) (map (Exits n) (side_types universe point.outward))
        (each-map (AtPoint n) (Enters n) (side_types universe point.inward) (each-all (λ t. n ≡ n) (λ t. refl) (side_types universe point.inward)))
        (each-map (AtPoint n) (Exits n) (side_types universe point.outward) (each-all (λ t. n ≡ n) (λ t. refl) (side_types universe point.outward)))

    in-point : (n : ℕ) (point : Point) → BothRise count point → Apart FactsDiffer (point_facts universe n point)
    in-point n point rise =
        let inward = side_types universe point.inward in
        let outward = side_types universe point.outward in
        let enters = side-rising universe rising point.inward rise.0 in
        let exits = side-rising universe rising point.outward rise.1 in
        apart-append FactsDiffer (map (Enters n) inward) (map (Exits n) outward)
        (apart-map FactsDiffer (Enters n) inward
        (rising-apart (λ t u. FactsDiffer (Enters n t) (Enters n u)) count
        (λ t u less within same. apart t u less within (point-same n n t u (append_cancel_left (codes "in:") (at_point types model n t) (at_point types model n u) same)).1) inward enters.each enters.apart))
        (apart-map FactsDiffer (Exits n) outward
        (rising-apart (λ t u. FactsDiffer (Exits n t) (Exits n u)) count
        (λ t u less within same. apart t u less within (point-same n n t u (append_cancel_left (codes "out:") (at_point types model n t) (at_point types model n u) same)).1) outward exits.each exits.apart))
        (each-map (λ a. AllByRecursion (FactsDiffer a) (map (Exits n) outward)) (Enters n) inward
        (each-all (λ t. AllByRecursion (FactsDiffer (Enters n t)) (map (Exits n) outward))
        (λ t. each-map (FactsDiffer (Enters n t)) (Exits n) outward (each-all (λ u. FactsDiffer (Enters n t) (Exits n u)) (λ u same. in-out n n t u same) outward)) inward))

    pub facts-apart : Apart FactsDiffer (model_facts universe model)
    facts-apart =
        let states = numbers_below (length (all_variants model.states.sorts)) in
        let points = numbered_from (point_facts universe) 0 model.points in
        apart-append FactsDiffer (map State states) points
        (apart-map FactsDiffer State states
        (below-apart (λ i j. FactsDiffer (State i) (State j)) (length (all_variants model.states.sorts))
        (λ i j less within same. numbers-apart model.states.sorts named.states shaped.states i j less within (append_cancel_left (codes "state:") (variant_name types model.states.sorts i) (variant_name types model.states.sorts j) same))))
        (numbered-apart (point_facts universe) FactsDiffer (λ n (point : Point). AtPoint n) 0 model.points (λ n i point is at. from-point n point)
        (λ n i point is at. in-point n point (each-at (BothRise count) model.points i point shaped.sides at)) facts-between)
        (each-map (λ a. AllByRecursion (FactsDiffer a) points) State states
        (each-all (λ state. AllByRecursion (FactsDiffer (State state)) points)
        (λ state. numbered-each (point_facts universe) (FactsDiffer (State state)) 0 model.points (λ n i point is at. each-weaker (AtPoint n) (FactsDiffer (State state)) (state-point n state) (point_facts universe n point) (from-point n point))) states))

  -- ---- events

  abbrev EventsDiffer : EventKind → EventKind → Type 0
  EventsDiffer a b = own_event_name types model a ≢ own_event_name types model b

  abbrev IsEvent : FlowMeaning → Type 0
  IsEvent (flow.Event name reached) = Unit {0}
  IsEvent (flow.State state reached) = ⊥
  IsEvent (flow.Carry start point) = ⊥
  IsEvent (flow.Change start point numbers) = ⊥

  -- the source of a flow
  abbrev OfFlow : ℕ → FlowMeaning → EventKind → Type 0
  OfFlow n one (Declared event) = ⊥
  OfFlow n one (Source number) = (number ≡ n) × IsEvent one
  OfFlow n one (Arrival point type) = ⊥

  abbrev Arrives : ℕ → EventKind → Type 0
  Arrives n (Declared event) = ⊥
  Arrives n (Source number) = ⊥
  Arrives n (Arrival point type) = point ≡ n

  from-flow : (n : ℕ) (one : FlowMeaning) → AllByRecursion (OfFlow n one) (source_events n one)
  from-flow n (flow.Event name reached) = ((refl, tt), tt)
  from-flow n (flow.State state reached) = tt
  from-flow n (flow.Carry start point) = tt
  from-flow n (flow.Change start point numbers) = tt

  in-flow : (n : ℕ) (one : FlowMeaning) → Apart EventsDiffer (source_events n one)
  in-flow n (flow.Event name reached) = (tt, tt)
  in-flow n (flow.State state reached) = tt
  in-flow n (flow.Carry start point) = tt
  in-flow n (flow.Change start point numbers) = tt

  names-apart : (x y : FlowMeaning) → IsEvent x → IsEvent y → SourcesDiffer x y → source_name (Some x) ≢ source_name (Some y)
  names-apart (flow.Event name reached) (flow.Event other its) is also differ = differ
  names-apart (flow.Event name reached) (flow.State state its) is also differ = absurd also
  names-apart (flow.Event name reached) (flow.Carry start point) is also differ = absurd also
  names-apart (flow.Event name reached) (flow.Change start point numbers) is also differ = absurd also
  names-apart (flow.State state reached) y is also differ = absurd is
  names-apart (flow.Carry start point) y is also differ = absurd is
  names-apart (flow.Change start point numbers) y is also differ = absurd is

  flows-between : (m n i j : ℕ) (x y : FlowMeaning) (a b : EventKind) → m ≡ 0 + i → n ≡ 0 + j → i < j → slice_get model.flows i ≡ Some x → slice_get model.flows j ≡ Some y → OfFlow m x a → OfFlow n y b → EventsDiffer a b
  flows-between m n i j x y (Declared a) b first second less at there is also same = absurd is
  flows-between m n i j x y (Arrival p t) b first second less at there is also same = absurd is
  flows-between m n i j x y (Source a) (Declared b) first second less at there is also same = absurd also
  flows-between m n i j x y (Source a) (Arrival p t) first second less at there is also same = absurd also
  flows-between m n i j x y (Source a) (Source b) first second less at there is also same =
      let here : a ≡ i = omega (arith, first, is.0) in
      let beside : b ≡ j = omega (arith, second, also.0) in
      let names = append_cancel_left (codes "source:") (source_name (slice_get model.flows a)) (source_name (slice_get model.flows b)) same in
      names-apart x y is.1 also.1 (apart-at SourcesDiffer model.flows i j x y shaped.sources less at there)
      (sym (ap (λ k. source_name (slice_get model.flows k)) here ∙ ap source_name at) ∙ names ∙ (ap (λ k. source_name (slice_get model.flows k)) beside ∙ ap source_name there))

  arrivals-between : (m n i j : ℕ) (x y : Point) (a b : EventKind) → m ≡ 0 + i → n ≡ 0 + j → i < j → slice_get model.points i ≡ Some x → slice_get model.points j ≡ Some y → Arrives m a → Arrives n b → EventsDiffer a b
  arrivals-between m n i j x y (Declared a) b first second less at there is also same = absurd is
  arrivals-between m n i j x y (Source a) b first second less at there is also same = absurd is
  arrivals-between m n i j x y (Arrival p t) (Declared b) first second less at there is also same = absurd also
  arrivals-between m n i j x y (Arrival p t) (Source b) first second less at there is also same = absurd also
  arrivals-between m n i j x y (Arrival p t) (Arrival q u) first second less at there is also same =
      points-apart m n i j p q t u x y first second less at there is also (append_cancel_left (codes "in:") (at_point types model p t) (at_point types model q u) same)

  declared-source : (n event : ℕ) (one : FlowMeaning) (b : EventKind) → OfFlow n one b → EventsDiffer (Declared event) b
  declared-source n event one (Declared b) is same = absurd is
  declared-source n event one (Source b) is same = no-word model.behavior.events named.events event (codes "source") (source_name (slice_get model.flows b)) (lacks-by 123 (codes "source") refl) same
  declared-source n event one (Arrival p t) is same = absurd is

  declared-arrival : (n event : ℕ) (b : EventKind) → Arrives n b → EventsDiffer (Declared event) b
  declared-arrival n event (Declared b) is same = absurd is
  declared-arrival n event (Source b) is same = absurd is
  declared-arrival n event (Arrival p t) is same = no-word model.behavior.events named.events event (codes "in") (at_point types model p t) (lacks-by 123 (codes "in") refl) same

  source-arrival : (n m : ℕ) (one : FlowMeaning) (a b : EventKind) → OfFlow n one a → Arrives m b → EventsDiffer a b
  source-arrival n m one (Declared a) b is also same = absurd is
  source-arrival n m one (Arrival p t) b is also same = absurd is
  source-arrival n m one (Source a) (Declared b) is also same = absurd also
  source-arrival n m one (Source a) (Source b) is also same = absurd also
  source-arrival n m one (Source a) (Arrival p t) is also same = heads 115 105 _ _ refl same

  number-rising : (one : Side) → Rises count one → IsRising count (side_numbers one)
  number-rising Absent rise = rising-none count
  number-rising Free rise = rising-none count
  number-rising (side.Declared numbers) rise = rise

  module _ (links : List Link) (component : ℕ) where
    from-arrival : (n : ℕ) (point : Point) → AllByRecursion (Arrives n) (arrivals links component n point)
    from-arrival n point = by (is_linked links (inward_of component n))
      where
        by : (b : Bool) → AllByRecursion (Arrives n) (cond b [] (map (Arrival n) (side_numbers point.inward)))
        by true = tt
        by false = each-map (Arrives n) (Arrival n) (side_numbers point.inward) (each-all (λ t. n ≡ n) (λ t. refl) (side_numbers point.inward))

    in-arrival : (n : ℕ) (point : Point) → BothRise count point → Apart EventsDiffer (arrivals links component n point)
    in-arrival n point rise = by (is_linked links (inward_of component n))
      where
        rising : IsRising count (side_numbers point.inward)
        rising = number-rising point.inward rise.0

        by : (b : Bool) → Apart EventsDiffer (cond b [] (map (Arrival n) (side_numbers point.inward)))
        by true = tt
        by false =
            apart-map EventsDiffer (Arrival n) (side_numbers point.inward)
            (rising-apart (λ t u. EventsDiffer (Arrival n t) (Arrival n u)) count
            (λ t u less within same. apart t u less within (point-same n n t u (append_cancel_left (codes "in:") (at_point types model n t) (at_point types model n u) same)).1) (side_numbers point.inward) rising.each rising.apart)

    pub events-apart : Apart EventsDiffer (model_events links component model)
    events-apart =
        let declared = numbers_below (length (all_variants model.behavior.events)) in
        let sources = numbered_from source_events 0 model.flows in
        let points = numbered_from (arrivals links component) 0 model.points in
        let all-points : (a : EventKind) → ((n : ℕ) (b : EventKind) → Arrives n b → EventsDiffer a b) → AllByRecursion (EventsDiffer a) points = λ a differ.
        numbered-each (arrivals links component) (EventsDiffer a) 0 model.points (λ n i point is at. each-weaker (Arrives n) (EventsDiffer a) (differ n) (arrivals links component n point) (from-arrival n point)) in
        let all-sources : (event : ℕ) → AllByRecursion (EventsDiffer (Declared event)) sources = λ event.
        numbered-each source_events (EventsDiffer (Declared event)) 0 model.flows (λ n i one is at. each-weaker (OfFlow n one) (EventsDiffer (Declared event)) (declared-source n event one) (source_events n one) (from-flow n one)) in
        apart-append EventsDiffer (map Declared declared) (sources ++ points)
        (apart-map EventsDiffer Declared declared (below-apart (λ i j. EventsDiffer (Declared i) (Declared j)) (length (all_variants model.behavior.events)) (λ i j less within same. numbers-apart model.behavior.events named.events shaped.events i j less within same)))
        (apart-append EventsDiffer sources points
        (numbered-apart source_events EventsDiffer OfFlow 0 model.flows (λ n i one is at. from-flow n one) (λ n i one is at. in-flow n one) flows-between)
        (numbered-apart (arrivals links component) EventsDiffer (λ n (point : Point). Arrives n) 0 model.points (λ n i point is at. from-arrival n point)
        (λ n i point is at. in-arrival n point (each-at (BothRise count) model.points i point shaped.sides at)) arrivals-between)
        (numbered-each source_events (λ a. AllByRecursion (EventsDiffer a) points) 0 model.flows
        (λ n i one is at. each-weaker (OfFlow n one) (λ a. AllByRecursion (EventsDiffer a) points) (λ a is. all-points a (λ m b. source-arrival n m one a b is)) (source_events n one) (from-flow n one))))
        (each-map (λ a. AllByRecursion (EventsDiffer a) (sources ++ points)) Declared declared
        (each-all (λ event. AllByRecursion (EventsDiffer (Declared event)) (sources ++ points))
        (λ event. each-append (EventsDiffer (Declared event)) sources points (all-sources event) (all-points (Declared event) (λ n b. declared-arrival n event b))) declared))

-- ---- in all components

module _ (assembly : Assembly) (named : AreNamed assembly) (paths : PathsDiffer assembly.instance.components) where
  path-is : (n : ℕ) (component : Component) → slice_get assembly.instance.components n ≡ Some component → path_at assembly n ≡ component.path
  path-is n component at = ap (λ found. option_map_or (λ (component : Component). component.path) found []) at

  path-named : (n : ℕ) → AllByRecursion IsIdentifier (path_at assembly n)
  path-named n = by (slice_get assembly.instance.components n) refl
    where
      by : (found : Option Component) → slice_get assembly.instance.components n ≡ found → AllByRecursion IsIdentifier (option_map_or (λ component. component.path) found [])
      by None at = tt
      by (Some component) at = each-at (λ (component : Component). AllByRecursion IsIdentifier component.path) assembly.instance.components n component named.paths at

  -- names of different components differ
  owners-apart : (m n i j o p : ℕ) (x y : Component) (a b : List ℕ) → m ≡ 0 + i → n ≡ 0 + j → i < j → slice_get assembly.instance.components i ≡ Some x → slice_get assembly.instance.components j ≡ Some y → o ≡ m → p ≡ n → behind assembly o a ≢ behind assembly p b
  owners-apart m n i j o p x y a b first second less at there is also same =
      let here : o ≡ i = omega (arith, first, is) in
      let beside : p ≡ j = omega (arith, second, also) in
      let both = behind-same (path_at assembly o) (path_at assembly p) a b (path-named o) (path-named p) same in
      paths i j x less (slice_get_within assembly.instance.components j y there)
      (
      ap (λ c. c.path) (get_or_from_slice_get assembly.instance.components i x x at) ∙ sym (ap (path_at assembly) here ∙ path-is i x at) ∙ both.0 ∙ (ap (path_at assembly) beside ∙ path-is j y there)
      ∙ ap (λ c. c.path) (sym (get_or_from_slice_get assembly.instance.components j y x there))
      )

  behind-cancel : (n : ℕ) (a b : List ℕ) → behind assembly n a ≡ behind assembly n b → a ≡ b
  behind-cancel n a b same = append_cancel_left (codes "/") a b (append_cancel_left (path_text (path_at assembly n)) (codes "/" ++ a) (codes "/" ++ b) same)

  module _ (apart : PrintsApart assembly.types) (shaped : (n : ℕ) → IsShaped (length assembly.types.types) (model_at assembly n)) (each : (n : ℕ) → IsNamed (model_at assembly n)) where
    pub fact-names-differ : (universe : List ℕ) → IsRising (length assembly.types.types) universe → NamesDiffer (fact_name assembly) (facts_of assembly universe)
    fact-names-differ universe rising =
        let R = λ (a b : FactKey). fact_name assembly a ≢ fact_name assembly b in
        AllPairs-from_Apart R (facts_of assembly universe)
        (numbered-apart (component_facts assembly universe) R (λ n (component : Component) (fact : FactKey). fact.owner ≡ n) 0 assembly.instance.components
        (λ n i component is at. each-map (λ (fact : FactKey). fact.owner ≡ n) (fact_in n) (model_facts universe (model_at assembly n)) (each-all (λ kind. n ≡ n) (λ kind. refl) (model_facts universe (model_at assembly n))))
        (λ n i component is at.
        apart-map R (fact_in n) (model_facts universe (model_at assembly n))
        (apart-weaker (λ a b. own_fact_name assembly.types (model_at assembly n) a ≢ own_fact_name assembly.types (model_at assembly n) b) (λ a b. R (fact_in n a) (fact_in n b))
        (λ a b differ same. differ (behind-cancel n (own_fact_name assembly.types (model_at assembly n) a) (own_fact_name assembly.types (model_at assembly n) b) same)) (model_facts universe (model_at assembly n))
        (facts-apart assembly.types apart (model_at assembly n) (each n) (shaped n) universe rising)))
        (λ m n i j x y a b first second less at there is also. owners-apart m n i j a.owner b.owner x y _ _ first second less at there is also))

    pub event-names-differ : NamesDiffer (event_name assembly) (events_of assembly)
    event-names-differ =
        let R = λ (a b : EventKey). event_name assembly a ≢ event_name assembly b in
        AllPairs-from_Apart R (events_of assembly)
        (numbered-apart (component_events assembly) R (λ n (component : Component) (event : EventKey). event.owner ≡ n) 0 assembly.instance.components
        (λ n i component is at. each-map (λ (event : EventKey). event.owner ≡ n) (event_in n) (model_events assembly.links n (model_at assembly n)) (each-all (λ kind. n ≡ n) (λ kind. refl) (model_events assembly.links n (model_at assembly n))))
        (λ n i component is at.
        apart-map R (event_in n) (model_events assembly.links n (model_at assembly n))
        (apart-weaker (λ a b. own_event_name assembly.types (model_at assembly n) a ≢ own_event_name assembly.types (model_at assembly n) b) (λ a b. R (event_in n a) (event_in n b))
        (λ a b differ same. differ (behind-cancel n (own_event_name assembly.types (model_at assembly n) a) (own_event_name assembly.types (model_at assembly n) b) same)) (model_events assembly.links n (model_at assembly n))
        (events-apart assembly.types apart (model_at assembly n) (each n) (shaped n) assembly.links n)))
        (λ m n i j x y a b first second less at there is also. owners-apart m n i j a.owner b.owner x y _ _ first second less at there is also))
