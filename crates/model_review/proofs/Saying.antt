-- Where a review tells nothing as hidden, each event and each fact of all that covers a fact makes it hold by itself.
use Rattle.std.proofs.Common.{ℕ, ◌+◌, ◌≡◌, true, false, nat_eq, List, [], ◌∷◌, filter, flat_map, length, map, slice_get, Option, Some, None, option_map, option_to_list, unwrap_or, ⊎_elim, ap, ◌∙◌, sym, refl, subst, arith}
use Rattle.std.specs.Option.{option_map_or}
use Rattle.std.proofs.lemmas.Bool.{eqb-true}
use Rattle.std.proofs.lemmas.Option.{slice_get-map}
use lib.ListN.{length-map}
use Rattle.plain_values.specs.Numbered.{numbers_below}
use Rattle.propagation_points.specs.Points.{Point, side_of}
use Rattle.propagation_points.specs.States.{all_variants}
use Rattle.propagation_points.specs.Uses.{side_types}
use Rattle.propagation_points.specs.declared.side.Side.TheVariants.{Absent}
use Rattle.error_flows.specs.declared.meaning.FlowMeaning.{FlowMeaning}
use Rattle.error_models.specs.declared.model.ErrorModel.{ErrorModel}
use Rattle.instantiator.specs.declared.path.Component.{Component}
use Rattle.propagation_links.specs.declared.link.Link.{Link}
use Rattle.propagation_links.specs.declared.link.PointAt.{PointAt}
use Rattle.model_facts.specs.Assembly.{Assembly, model_at}
use Rattle.model_facts.specs.Facts.{component_facts, fact_in, fact_number, facts_of, model_facts, outward_of, point_facts, same_fact, same_side}
use Rattle.model_facts.specs.declared.keys.FactKey.{FactKey}
use Rattle.model_facts.specs.declared.keys.FactKind.{FactKind}
use Rattle.model_facts.specs.declared.keys.FactKind.TheVariants.{Enters, Exits, State}
use Rattle.fault_system.specs.Rounds.{no_event, only}
use Rattle.fault_system.specs.Systems.{IsFact}
use Rattle.fault_system.specs.Truth.{truth}
use Rattle.fault_system.specs.declared.formula.FactInfo.{FactInfo}
use Rattle.fact_formulas.specs.Facts.{fact_at, linked_from}
use Rattle.fact_formulas.specs.Flat.{fact_info, system_by}
use Rattle.fact_formulas.specs.Formulas.{FlowAt, covers_type, end_of, flow_at, flows_at}
use Rattle.fact_formulas.specs.Numbered.{Numbered, Site, numbered_by, site_of}
use Rattle.system_review.specs.Alone.{following, made_by_event, made_by_fact, no_fact}
use Rattle.system_review.specs.Possible.{possible_in}
use Rattle.system_review.specs.inner.Alone.{HoldTheSame, IsSaid}
use Rattle.model_review.specs.Findings.{hidden_along, hidden_flow, hidden_flows, hidden_link, hidden_types, is_hidden_flow, is_hidden_link, is_path, types_at}
use Rattle.model_review.specs.Seen.{Seen, is_lost_fact, number_at, seen_by, states_of, types_in}
use Rattle.model_review.specs.declared.finding.Finding.TheVariants.{HiddenLink, HiddenPath, HiddenSource}
use Rattle.model_review.specs.inner.Joined.{HasNoHidden, joined_by, joined_info}
use Rattle.model_facts.proofs.KeyLaws.{fact-exact, fact-itself}
use Rattle.fault_system.proofs.Elements.{In, In-append, In-contains, In-filter, In-map}
use Rattle.system_review.proofs.Lost.{same-held}
use Rattle.system_review.proofs.More.{applied-is}
use Rattle.model_review.proofs.Causes.{covering_events, covering_facts, events_at, exit_events, exit_facts, fact_events, fact_facts, facts_at, flow_events, flow_facts, joined-joins, kind_events, kind_facts, linked_facts}
use Rattle.model_review.proofs.Kept.{fact-made, flow-events-made, flow-facts-made, if-none, may-come, side-exact, types-none}
use Rattle.model_review.proofs.Parts.{at-in, each-none, first-there, given-by, in-cond, none-pass, part-none, part-of}

module _ (assembly : Assembly) (universe effects : List ℕ) where
  abbrev numbered : Numbered
  numbered = numbered_by assembly universe

  abbrev seen : Seen
  seen = seen_by (numbered_by assembly universe) effects

  -- ---- where the facts of a model stand

  -- a fact is one of a component that is there, by its model
  key-there : (key : FactKey) → In key (facts_of assembly universe) → (component : Component) × (slice_get assembly.instance.components key.owner ≡ Some component) × In key.kind (model_facts universe (model_at assembly key.owner))
  key-there key i =
      let (n, j, component, is, at, given) = part-of (component_facts assembly universe) key 0 assembly.instance.components i in
      let (kind, there, made) = In-map (fact_in n) key (model_facts universe (model_at assembly n)) given in
      let here : j ≡ n = omega (arith, is) in
      subst (λ (k : FactKey). (component : Component) × (slice_get assembly.instance.components k.owner ≡ Some component) × In k.kind (model_facts universe (model_at assembly k.owner))) made
      (component, subst (λ (k : ℕ). slice_get assembly.instance.components k ≡ Some component) here at, there)

  -- a type that exits at a point is one of its outward side
  exit-there : (model : ErrorModel) (point type : ℕ) → In (Exits point type) (model_facts universe model) → (its : Point) × (slice_get model.points point ≡ Some its) × In type (side_types universe its.outward)
  exit-there model point type i = ⊎_elim
      (λ state. let (n, there, made) = In-map State (Exits point type) (numbers_below (length (all_variants model.states.sorts))) state in absurd (no_state n made))
      (λ more.
      let (n, j, its, is, at, given) = part-of (point_facts universe) (Exits point type) 0 model.points more in
      ⊎_elim
      (λ inward. let (t, there, made) = In-map (Enters n) (Exits point type) (side_types universe its.inward) inward in absurd (no_entry n t made))
      (λ outward.
      let (t, there, made) = In-map (Exits n) (Exits point type) (side_types universe its.outward) outward in
      let same : n ≡ point = point_of n t made in
      let type_same : t ≡ type = type_of n t made in
      let here : j ≡ point = omega (arith, is, same) in
      (its, subst (λ (k : ℕ). slice_get model.points k ≡ Some its) here at, subst (λ (k : ℕ). In k (side_types universe its.outward)) type_same there))
      (In-append (Exits point type) (map (Enters n) (side_types universe its.inward)) (map (Exits n) (side_types universe its.outward)) given))
      (In-append (Exits point type) (map State (numbers_below (length (all_variants model.states.sorts)))) _ i)
    where
      no_state : (n : ℕ) → State n ≡ Exits point type → ⊥
      no_state n e = cc

      no_entry : (n t : ℕ) → Enters n t ≡ Exits point type → ⊥
      no_entry n t e = cc

      point_of : (n t : ℕ) → Exits n t ≡ Exits point type → n ≡ point
      point_of n t e = cc

      type_of : (n t : ℕ) → Exits n t ≡ Exits point type → t ≡ type
      type_of n t e = cc

  module _ (clear : HasNoHidden seen) where
    -- no type of a flow is told
    hidden-none : (owner : ℕ) (component : Component) → slice_get assembly.instance.components owner ≡ Some component → (number : ℕ) (meaning : FlowMeaning)
        → slice_get (model_at assembly owner).flows number ≡ Some meaning → hidden_types seen (states_of seen owner) owner number meaning ≡ []
    hidden-none owner component at number meaning there =
        let here : owner ≡ 0 + owner = omega arith in
        let place : number ≡ 0 + number = omega arith in
        let sources : hidden_flows false seen owner (model_at assembly owner) ≡ [] = part-none (λ (k : ℕ) (c : Component). hidden_flows false seen k (model_at assembly k)) 0 assembly.instance.components clear.sources owner owner component here at in
        let paths : hidden_flows true seen owner (model_at assembly owner) ≡ [] = part-none (λ (k : ℕ) (c : Component). hidden_flows true seen k (model_at assembly k)) 0 assembly.instance.components clear.paths owner owner component here at in
        types-none (is_path meaning) (λ types. HiddenSource owner number (types_at (outward_of owner (end_of meaning)) types)) (λ types. HiddenPath owner number (types_at (outward_of owner (end_of meaning)) types)) (hidden_types seen (states_of seen owner) owner number meaning)
        (part-none (hidden_flow false seen (states_of seen owner) owner) 0 (model_at assembly owner).flows sources number number meaning place there)
        (part-none (hidden_flow true seen (states_of seen owner) owner) 0 (model_at assembly owner).flows paths number number meaning place there)

    module _ (owner point type : ℕ) (component : Component) (at : slice_get assembly.instance.components owner ≡ Some component) (may_be : In type (types_in seen (outward_of owner point))) (target : ℕ) (known : number_at seen (outward_of owner point) type ≡ Some target) where
      abbrev owner_site : Site
      owner_site = site_of numbered owner

      -- a flow that comes out of the point is not hidden
      flow-shown : (flow : FlowAt) → In flow (flows_at point (model_at assembly owner).flows) → is_hidden_flow seen (states_of seen owner) owner flow.number type target flow.flow ≡ false
      flow-shown flow i =
          let (n, j, meaning, is, there, put) = part-of (flow_at point) flow 0 (model_at assembly owner).flows i in
          let (ends, made) = in-cond (nat_eq (end_of meaning) point) flow (record { number = n; flow = meaning } ∷ []) put in
          let here : j ≡ n = omega (arith, is) in
          let end : point ≡ end_of meaning = sym (eqb-true (end_of meaning) point ends) in
          let none = hidden-none owner component at n meaning (subst (λ (k : ℕ). slice_get (model_at assembly owner).flows k ≡ Some meaning) here there) in
          let its_type : In type (types_in seen (outward_of owner (end_of meaning))) = subst (λ (p : ℕ). In type (types_in seen (outward_of owner p))) end may_be in
          let its_number : number_at seen (outward_of owner (end_of meaning)) type ≡ Some target = subst (λ (p : ℕ). number_at seen (outward_of owner p) type ≡ Some target) end known in
          let fails = none-pass (λ type. option_map_or (λ target. is_hidden_flow seen (states_of seen owner) owner n type target meaning) (number_at seen (outward_of owner (end_of meaning)) type) false) (types_in seen (outward_of owner (end_of meaning))) none type its_type in
          let shown : is_hidden_flow seen (states_of seen owner) owner n type target meaning ≡ false = sym (ap (λ o. option_map_or (λ target. is_hidden_flow seen (states_of seen owner) owner n type target meaning) o false) its_number) ∙ fails in
          ⊎_elim
          (λ same. subst (λ (f : FlowAt). is_hidden_flow seen (states_of seen owner) owner f.number type target f.flow ≡ false) same shown)
          (λ nothing. absurd nothing) made

      -- its event makes the fact hold
      exit-events-made : (e : ℕ) → In e (exit_events owner_site point type) → made_by_event seen.system target e ≡ true
      exit-events-made e i =
          let (flow, there, given) = given-by (covering_events owner_site type) e (flows_at point (model_at assembly owner).flows) i in
          let (covered, its) = in-cond (covers_type owner_site type flow.flow) e (flow_events owner_site flow.number flow.flow) given in
          flow-events-made seen (states_of seen owner) owner type target flow.number flow.flow (flow-shown flow there) covered e its

      -- so does each of its facts that may come about
      flows-facts-made : (c : ℕ) → In c (flat_map (covering_facts owner_site type) (flows_at point (model_at assembly owner).flows)) → possible_in seen.system c ≡ true → made_by_fact seen.system (states_of seen owner) target c ≡ true
      flows-facts-made c i may =
          let (flow, there, given) = given-by (covering_facts owner_site type) c (flows_at point (model_at assembly owner).flows) i in
          let (covered, its) = in-cond (covers_type owner_site type flow.flow) c (flow_facts owner_site type flow.flow) given in
          flow-facts-made seen (states_of seen owner) owner type target flow.number flow.flow (flow-shown flow there) covered c its may

      -- a link into the side is not hidden
      link-shown : (from : PointAt) → In from (linked_from (outward_of owner point) assembly.links) → is_lost_fact seen (states_of seen owner) target (number_at seen from type) ≡ false
      link-shown from i =
          let (link, there, its) = In-map (λ (link : Link). link.from) from (filter (λ link. same_side link.to (outward_of owner point)) assembly.links) i in
          let (among, leads) = In-filter (λ (link : Link). same_side link.to (outward_of owner point)) link assembly.links there in
          let to = side-exact link.to (outward_of owner point) leads in
          let same : link ≡ record { from = from; to = outward_of owner point } = λ i. record { from = its i; to = to i } in
          let nothing : hidden_link seen (record { from = from; to = outward_of owner point }) ≡ [] = subst (λ (l : Link). hidden_link seen l ≡ []) same (each-none (hidden_link seen) assembly.links clear.links link among) in
          let none : hidden_along seen (states_of seen owner) (record { from = from; to = outward_of owner point }) ≡ [] = if-none (λ types. HiddenLink from (types_at (outward_of owner point) types)) (hidden_along seen (states_of seen owner) (record { from = from; to = outward_of owner point })) nothing in
          let fails = none-pass (is_hidden_link seen (states_of seen owner) (record { from = from; to = outward_of owner point })) (types_in seen (outward_of owner point)) none type may_be in
          sym (ap (λ o. option_map_or (λ target. is_lost_fact seen (states_of seen owner) target (number_at seen from type)) o false) known) ∙ fails

      links-facts-made : (c : ℕ) → In c (linked_facts numbered type (outward_of owner point)) → possible_in seen.system c ≡ true → made_by_fact seen.system (states_of seen owner) target c ≡ true
      links-facts-made c i may =
          let (from, there, given) = given-by (λ from. option_to_list (fact_number (facts_of assembly universe) (fact_at type from))) c (linked_from (outward_of owner point) assembly.links) i in
          fact-made seen (states_of seen owner) target (number_at seen from type) c (link-shown from there) given may

      exit-facts-made : (c : ℕ) → In c (exit_facts owner_site point type) → possible_in seen.system c ≡ true → made_by_fact seen.system (states_of seen owner) target c ≡ true
      exit-facts-made c i may = ⊎_elim
          (λ flows. flows-facts-made c flows may)
          (λ links. links-facts-made c links may)
          (In-append c (flat_map (covering_facts owner_site type) (flows_at point (model_at assembly owner).flows)) (linked_facts numbered type (outward_of owner point)) i)

    -- ---- a fact of a number

    info-at : (n : ℕ) (key : FactKey) → slice_get (facts_of assembly universe) n ≡ Some key → IsFact (system_by numbered) n (fact_info numbered key)
    info-at n key at = slice_get-map (fact_info numbered) (facts_of assembly universe) n ∙ ap (option_map (fact_info numbered)) at

    -- two numbers of one fact are made to hold by the same
    event-moved : (n m : ℕ) (key : FactKey) → slice_get (facts_of assembly universe) n ≡ Some key → slice_get (facts_of assembly universe) m ≡ Some key → (e : ℕ) → made_by_event seen.system m e ≡ true → made_by_event seen.system n e ≡ true
    event-moved n m key at other e made =
        ap (λ (found : Option FactInfo). option_map_or (λ (fact : FactInfo). truth (only e) no_fact fact.formula) found false) (info-at n key at ∙ sym (info-at m key other)) ∙ made

    fact-moved : (n m : ℕ) (key : FactKey) → slice_get (facts_of assembly universe) n ≡ Some key → slice_get (facts_of assembly universe) m ≡ Some key → (among : List ℕ) (c : ℕ) → made_by_fact seen.system among m c ≡ true → made_by_fact seen.system among n c ≡ true
    fact-moved n m key at other among c made =
        applied-is seen.system no_event (following seen.system among c (length among)) n (fact_info numbered key) (info-at n key at)
        ∙ sym (applied-is seen.system no_event (following seen.system among c (length among)) m (fact_info numbered key) (info-at m key other))
        ∙ made

    -- the number of a fact is that of its first place
    first-number : (n : ℕ) (key : FactKey) → slice_get (facts_of assembly universe) n ≡ Some key → (m : ℕ) × (fact_number (facts_of assembly universe) key ≡ Some m) × (slice_get (facts_of assembly universe) m ≡ Some key)
    first-number n key at =
        let (m, other, found, here, same) = first-there (same_fact key) (facts_of assembly universe) key (at-in (facts_of assembly universe) n key at) (fact-itself key) in
        (m, found, here ∙ ap Some (sym (fact-exact key other same)))

    -- all that covers a fact makes it hold
    kind-said : (n owner : ℕ) (kind : FactKind) → slice_get (facts_of assembly universe) n ≡ Some (fact_in owner kind)
        → ((e : ℕ) → In e (kind_events (site_of numbered owner) kind) → made_by_event seen.system n e ≡ true)
        × ((c : ℕ) → In c (kind_facts (site_of numbered owner) kind) → possible_in seen.system c ≡ true → made_by_fact seen.system (states_of seen owner) n c ≡ true)
    kind-said n owner (State state) at = ((λ e i. absurd i), (λ c i may. absurd i))
    kind-said n owner (Enters point type) at = ((λ e i. absurd i), (λ c i may. absurd i))
    kind-said n owner (Exits point type) at =
        let (component, standing, among) = key-there (fact_in owner (Exits point type)) (at-in (facts_of assembly universe) n (fact_in owner (Exits point type)) at) in
        let (its, point_at, may_be) = exit-there (model_at assembly owner) point type among in
        let may : In type (types_in seen (outward_of owner point)) = subst (λ (o : Option Point). In type (side_types universe (unwrap_or (option_map (side_of true) o) Absent))) (sym point_at) may_be in
        let (m, known, other) = first-number n (fact_in owner (Exits point type)) at in (
          (λ e i. event-moved n m (fact_in owner (Exits point type)) at other e (exit-events-made owner point type component standing may m known e i)),
          (λ c i so. fact-moved n m (fact_in owner (Exits point type)) at other (states_of seen owner) c (exit-facts-made owner point type component standing may m known c i so)),
        )

    events-said : (n : ℕ) (found : Option FactKey) → slice_get (facts_of assembly universe) n ≡ found → (e : ℕ) → In e (option_map_or (fact_events numbered) found []) → made_by_event seen.system n e ≡ true
    events-said n None at e i = absurd i
    events-said n (Some key) at e i = (kind-said n key.owner key.kind at).0 e i

    facts-said : (n : ℕ) (found : Option FactKey) → slice_get (facts_of assembly universe) n ≡ found → (c : ℕ) → In c (option_map_or (fact_facts numbered) found []) → possible_in seen.system c ≡ true
        → (among : List ℕ) × (made_by_fact seen.system among n c ≡ true)
    facts-said n None at c i may = absurd i
    facts-said n (Some key) at c i may = (states_of seen key.owner, (kind-said n key.owner key.kind at).1 c i may)

    -- each event and each fact that may come about, of all that covers a fact, makes it hold by itself
    pub all-said : IsSaid (system_by numbered) (events_at numbered) (facts_at numbered)
    all-said = record {
      events = λ n e there. events-said n (slice_get (facts_of assembly universe) n) refl e (In-contains e (events_at numbered n) there);
      facts = λ n c there possible. facts-said n (slice_get (facts_of assembly universe) n) refl c (In-contains c (facts_at numbered n) there) (may-come seen.system c possible);
    }

-- Where nothing is hidden, the same facts hold in the system in which all that covers a fact is joined.
pub nothing-hidden : (assembly : Assembly) (universe effects : List ℕ) → HasNoHidden (seen_by (numbered_by assembly universe) effects) → HoldTheSame (system_by (numbered_by assembly universe)) (joined_by (numbered_by assembly universe))
nothing-hidden assembly universe effects clear events n =
    same-held (system_by (numbered_by assembly universe)) (joined_by (numbered_by assembly universe)) (events_at (numbered_by assembly universe)) (facts_at (numbered_by assembly universe))
    (length-map (facts_of assembly universe) (fact_info (numbered_by assembly universe)) ∙ sym (length-map (facts_of assembly universe) (joined_info (numbered_by assembly universe))))
    (joined-joins (numbered_by assembly universe)) (all-said assembly universe effects clear) events n
