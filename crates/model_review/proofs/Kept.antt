-- What a review does not tell as hidden makes its fact hold.
use Rattle.std.proofs.Common.{ℕ, ◌≡◌, Bool, true, false, cond, ◌&&◌, ◌==◌, not, List, [], ◌∷◌, filter, length, slice_get, Option, Some, None, option_map, option_to_list, unwrap_or, ⊎_elim, ap, ◌∙◌, sym, refl, subst, arith}
use Rattle.std.specs.Cmp.{booleans_Decides}
use Rattle.std.specs.Option.{option_map_or}
use Rattle.std.proofs.lemmas.Bool.{and_parts, eqb-true, false≢true, ne_eqb, not-false}
use Rattle.error_libraries.specs.Search.{is_number_in}
use Rattle.propagation_points.specs.Points.{Point, side_of}
use Rattle.propagation_points.specs.States.{held_numbers}
use Rattle.propagation_points.specs.Uses.{covers, side_types}
use Rattle.propagation_points.specs.declared.side.Side.TheVariants.{Absent}
use Rattle.error_flows.specs.declared.meaning.FlowMeaning.{FlowMeaning}
use Rattle.error_flows.specs.declared.meaning.FlowMeaning.TheVariants as flow
use Rattle.propagation_links.specs.declared.link.PointAt.{PointAt}
use Rattle.model_facts.specs.Assembly.{model_at}
use Rattle.model_facts.specs.Facts.{inward_of, same_side}
use Rattle.model_facts.specs.declared.keys.FactKind.TheVariants.{Enters, State}
use Rattle.fault_system.specs.Systems.{System}
use Rattle.fact_formulas.specs.Formulas.{covers_type}
use Rattle.fact_formulas.specs.Numbered.{Site, inward_types, site_of}
use Rattle.system_review.specs.Alone.{made_by_event, made_by_fact}
use Rattle.system_review.specs.Possible.{possible_in}
use Rattle.system_review.specs.inner.Possible.{IsPossible}
use Rattle.model_review.specs.Findings.{if_any, is_hidden_flow}
use Rattle.model_review.specs.Seen.{Seen, is_lost_event, is_lost_fact, number_at, source_number, state_number, types_in}
use Rattle.model_review.specs.declared.finding.Finding.{Finding}
use Rattle.fault_system.proofs.Elements.{In, In-filter}
use Rattle.fault_system.proofs.HoldsLaws.{holds_of-exact}
use Rattle.system_review.proofs.More.{holds-more}
use Rattle.model_review.proofs.Causes.{flow_events, flow_facts, own_number}
use Rattle.model_review.proofs.Parts.{any-none, given-by}

-- ---- what is not told as lost

rest-false : (a b : Bool) → (a && b) ≡ false → a ≡ true → b ≡ false
rest-false true b none so = none
rest-false false b none so = absurd (false≢true so)

-- what may come about under some events may come about under all
pub may-come : (system : System) (n : ℕ) → IsPossible system n → possible_in system n ≡ true
may-come system n (events, holds) = (holds_of-exact system (λ event. true) n).1 (holds-more system events (λ event. true) (λ m e fact at o h. refl) n holds)

module _ (seen : Seen) (among : List ℕ) (target : ℕ) where
  -- the event of a source makes its fact hold
  pub event-made : (event : Option ℕ) (e : ℕ) → is_lost_event seen target event ≡ false → In e (option_to_list event) → made_by_event seen.system target e ≡ true
  event-made None e kept i = absurd i
  event-made (Some n) e kept i = ⊎_elim
      (λ same. subst (λ (m : ℕ). made_by_event seen.system target m ≡ true) same (not-false (made_by_event seen.system target n) kept))
      (λ none. absurd none) i

  -- so does a fact that may come about
  pub fact-made : (fact : Option ℕ) (c : ℕ) → is_lost_fact seen among target fact ≡ false → In c (option_to_list fact) → possible_in seen.system c ≡ true → made_by_fact seen.system among target c ≡ true
  fact-made None c kept i may = absurd i
  fact-made (Some n) c kept i may = ⊎_elim
      (λ same. subst (λ (m : ℕ). possible_in seen.system m ≡ true → made_by_fact seen.system among target m ≡ true) same
      (λ (so : possible_in seen.system n ≡ true). not-false (made_by_fact seen.system among target n) (rest-false (possible_in seen.system n) (not (made_by_fact seen.system among target n)) kept so)) may)
      (λ none. absurd none) i

-- ---- flows

side-same : (outward : Bool) (found : Option Point) → option_map_or (side_of outward) found Absent ≡ unwrap_or (option_map (side_of outward) found) Absent
side-same outward None = refl
side-same outward (Some point) = refl

-- the types at an inward side, as formulas and as findings see them
pub types-same : (seen : Seen) (owner point : ℕ) → inward_types (site_of seen.numbered owner) point ≡ types_in seen (inward_of owner point)
types-same seen owner point = ap (side_types seen.numbered.universe) (side-same false (slice_get (model_at seen.numbered.assembly owner).points point))

module _ (seen : Seen) (among : List ℕ) (owner type target : ℕ) where
  abbrev site : Site
  site = site_of seen.numbered owner

  -- a source that is not hidden
  pub flow-events-made : (number : ℕ) (meaning : FlowMeaning) → is_hidden_flow seen among owner number type target meaning ≡ false → covers_type site type meaning ≡ true
      → (e : ℕ) → In e (flow_events site number meaning) → made_by_event seen.system target e ≡ true
  flow-events-made number (flow.Event name reached) shown so e i =
      event-made seen among target (source_number seen owner number) e (rest-false (covers reached.types type) (is_lost_event seen target (source_number seen owner number)) shown so) i
  flow-events-made number (flow.State state reached) shown so e i = absurd i
  flow-events-made number (flow.Carry start end) shown so e i = absurd i
  flow-events-made number (flow.Change start end types) shown so e i = absurd i

  -- a source with a state, or a path
  pub flow-facts-made : (number : ℕ) (meaning : FlowMeaning) → is_hidden_flow seen among owner number type target meaning ≡ false → covers_type site type meaning ≡ true
      → (c : ℕ) → In c (flow_facts site type meaning) → possible_in seen.system c ≡ true → made_by_fact seen.system among target c ≡ true
  flow-facts-made number (flow.Event name reached) shown so c i may = absurd i
  flow-facts-made number (flow.State state reached) shown so c i may =
      let none = rest-false (covers reached.types type) _ shown so in
      let (n, there, given) = given-by (λ n. own_number site (State n)) c (held_numbers state) i in
      fact-made seen among target (state_number seen owner n) c (any-none (λ n. is_lost_fact seen among target (state_number seen owner n)) (held_numbers state) none n there) given may
  flow-facts-made number (flow.Carry start end) shown so c i may =
      let both = and_parts (is_number_in (inward_types site start.point) type) (covers start.types type) so in
      fact-made seen among target (number_at seen (inward_of owner start.point) type) c (rest-false (covers start.types type) _ shown both.1) i may
  flow-facts-made number (flow.Change start end types) shown so c i may =
      let none = rest-false (is_number_in types type) _ shown so in
      let (other, there, given) = given-by (λ other. own_number site (Enters start.point other)) c (filter (covers start.types) (inward_types site start.point)) i in
      let (at, covered) = In-filter (covers start.types) other (inward_types site start.point) there in
      let kept = any-none (λ other. covers start.types other && is_lost_fact seen among target (number_at seen (inward_of owner start.point) other)) (types_in seen (inward_of owner start.point)) none other
      (subst (In other) (types-same seen owner start.point) at) in
      fact-made seen among target (number_at seen (inward_of owner start.point) other) c (rest-false (covers start.types other) _ kept covered) given may

-- ---- where nothing is told

pub if-none : (tells : List ℕ → Finding) (types : List ℕ) → if_any tells types ≡ [] → types ≡ []
if-none tells [] none = refl
if-none tells (type ∷ types) none =
    let some : (length (type ∷ types) == 0) ≡ false = ne_eqb (length (type ∷ types)) 0 (λ e. absurd (omega arith)) in
    absurd (told (sym (ap (λ b. cond b [] (tells (type ∷ types) ∷ [])) some) ∙ none))
  where
    told : {finding : Finding} → finding ∷ [] ≡ [] → ⊥
    told e = cc

pub types-none : (path : Bool) (as_source as_path : List ℕ → Finding) (types : List ℕ) → cond path [] (if_any as_source types) ≡ [] → cond path (if_any as_path types) [] ≡ [] → types ≡ []
types-none true as_source as_path types source path = if-none as_path types path
types-none false as_source as_path types source path = if-none as_source types source

-- two sides that are the same are one
pub side-exact : (a b : PointAt) → same_side a b ≡ true → a ≡ b
side-exact a b same =
    let two = and_parts _ _ same in
    let one = and_parts _ _ two.0 in
    let component = eqb-true a.component b.component one.0 in
    let point = eqb-true a.point b.point one.1 in
    let outward = (booleans_Decides a.outward b.outward).0 two.1 in
    λ i. record { component = component i; point = point i; outward = outward i }
