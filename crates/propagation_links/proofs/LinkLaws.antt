-- Links and refusals, component after component.
use Rattle.std.proofs.Common.{ℕ, ◌+◌, ◌≡◌, ◌<◌, ◌≤◌, List, [], ◌∷◌, ◌++◌, length, get_or, slice_get, sum, map, take, drop, flat_map, Option, Some, None, option_map, option_to_list, refl, sym, ap, ◌∙◌, subst, false, true}
use Rattle.std.specs.Option.{option_or}
use Rattle.std.proofs.lemmas.List.Sums.{sum_by_push}
use Rattle.std.proofs.lemmas.List.{append_assoc, append-nil, get_or_default, take-append-drop, take_all}
use Rattle.aadl_syntax.specs.declared.core_model.PackageUnit.{PackageUnit}
use Rattle.plain_values.specs.declared.refusal.Refusal.{Refusal}
use Rattle.plain_values.specs.declared.refusal.Stop.{Stop}
use Rattle.plain_values.specs.declared.refusal.Stop.TheVariants.{Memory, Refused}
use Rattle.plain_values.specs.Order.{least}
use Rattle.noted_refusals.specs.Groups.{first_group, or_group}
use Rattle.noted_refusals.specs.inner.Noted.{Noted, TellsFirst, alone}
use Rattle.noted_refusals.proofs.Laws.{least-one, least-or, none-in, or-assoc, told-alone, told-here, told-next}
use Rattle.profiles.specs.declared.profile.Profile.{Profile}
use Rattle.profiles.specs.declared.profile.Profile.TheVariants.{First, Second}
use Rattle.package_index.specs.declared.id.ClassifierId.{ClassifierId}
use Rattle.plain_values.specs.Numbered.{numbered_from}
use Rattle.package_index.proofs.Loops.{numbered-more}
use Rattle.component_extension.specs.declared.effective.Effective.{Effective}
use Rattle.instantiator.specs.declared.path.Component.{Component}
use Rattle.instantiator.specs.Effectives.{effective_at, effective_of, no_effective}
use Rattle.plain_values.specs.inner.Stops.{StopsAt}
use Rattle.instantiator.specs.Whole.{Instance, classifier_at, effective_in}
use Rattle.propagation_links.specs.declared.bound.BoundTo.{BoundTo}
use Rattle.propagation_links.specs.declared.link.Link.{Link}
use Rattle.propagation_links.specs.declared.further.Further.{Further}
use Rattle.propagation_links.specs.Bound.{all_bounds, all_carried, all_functions, all_held}
use Rattle.propagation_links.specs.Ends.{Pointed}
use Rattle.propagation_links.specs.Links.{all_links, bound_links, carried_links, component_links, connected, extra_links, links_in, links_under, only_second}
use Rattle.propagation_links.specs.Refused.{component_fault, component_groups, count_bound, count_carried, count_further, faults_group, first_fault, limit_refusal, refusals_in}
use Rattle.propagation_links.specs.inner.Steps.{IsFurther, Linked}

-- ---- the effective classifier of a component

some-effective : (packages : List PackageUnit) (classifier : Option ClassifierId) (effective : Effective) → Some effective ≡ option_map (effective_of packages) classifier → effective_at packages classifier ≡ effective
some-effective packages None effective is = cc
some-effective packages (Some id) effective is = cc

no-effective : (packages : List PackageUnit) (classifier : Option ClassifierId) → None ≡ option_map (effective_of packages) classifier → effective_at packages classifier ≡ no_effective
no-effective packages None is = refl
no-effective packages (Some id) is = cc

module _ (pointed : Pointed) (number : ℕ) where
  abbrev classifier : Option ClassifierId
  classifier = classifier_at pointed.instance number

  pub effective-is : (effective : Effective) → Some effective ≡ option_map (effective_of pointed.instance.packages) classifier → effective ≡ effective_in pointed.instance number
  effective-is effective is = sym (some-effective pointed.instance.packages classifier effective is)

  -- a component without classifier has no links, and nothing is refused of it
  pub nothing-linked : (links : List Link) → None ≡ option_map (effective_of pointed.instance.packages) classifier → Linked pointed number (effective_in pointed.instance number) links links
  nothing-linked links none =
      subst (λ effective. Linked pointed number effective links links) (sym (no-effective pointed.instance.packages classifier none)) (record { links = sym (append-nil links); accepted = refl })

-- ---- numbered parts

numbered-front : {Part Row : Type 0} (give : ℕ → Part → List Row) (number : ℕ) (xs ys : List Part) → (rest : List Row) × (numbered_from give number (xs ++ ys) ≡ numbered_from give number xs ++ rest)
numbered-front give number [] ys = (numbered_from give number ys, refl)
numbered-front give number (x ∷ xs) ys =
    let more = numbered-front give (number + 1) xs ys in
    (more.0, ap (λ rest. give number x ++ rest) more.1 ∙ sym (append_assoc (give number x) (numbered_from give (number + 1) xs) more.0))

-- the first group of one list and then of another
first-append : (xs ys : List (List Refusal)) → first_group (xs ++ ys) ≡ or_group (first_group xs) (first_group ys)
first-append [] ys = refl
first-append (group ∷ xs) ys = ap (or_group group) (first-append xs ys) ∙ or-assoc group (first_group xs) (first_group ys)

module _ (pointed : Pointed) (i : ℕ) (within : i < length pointed.instance.components) where
  abbrev all : List Component
  all = pointed.instance.components

  abbrev component : Component
  component = get_or all i (record { path = []; classifier = None })

  component_is : component ≡ get_or all i component
  component_is = get_or_default all i (record { path = []; classifier = None }) component within

  abbrev faults : List Refusal
  faults = refusals_in pointed i (effective_in pointed.instance i)

  -- the links of one component more
  pub links-more : (before after : List Link) → before ≡ numbered_from (component_links pointed) 0 (take i all) → Linked pointed i (effective_in pointed.instance i) before after → after ≡ numbered_from (component_links pointed) 0 (take (i + 1) all)
  links-more before after had linked =
      linked.links ∙ ap (λ front. front ++ links_in pointed i (effective_in pointed.instance i)) had ∙ sym (numbered-more (component_links pointed) all i component within component_is)

  abbrev groups : ℕ → List (List Refusal)
  groups n = numbered_from (component_groups pointed) 0 (take n all)

  groups-more : first_group (groups i) ≡ [] → first_group (groups (i + 1)) ≡ or_group faults []
  groups-more none =
      ap first_group (numbered-more (component_groups pointed) all i component within component_is) ∙ first-append (groups i) (faults ∷ [])
      ∙ ap (λ before. or_group before (or_group faults [])) none

  -- of one component more nothing is refused
  pub clear-more : first_group (groups i) ≡ [] → least faults ≡ None → first_group (groups (i + 1)) ≡ []
  clear-more none accepted = groups-more none ∙ ap (λ group. or_group group []) (none-in faults accepted)

  -- what is told of a component of which none before it is refused
  pub tells-at : first_group (groups i) ≡ [] → (noted : Noted) (stop : Stop) → TellsFirst faults noted stop → TellsFirst (faults_group pointed) noted stop
  tells-at none noted stop told =
      let split = numbered-front (component_groups pointed) 0 (take (i + 1) all) (drop (i + 1) all) in
      let whole : faults_group pointed ≡ or_group (or_group faults []) (first_group split.0) =
      ap (λ its. first_group (numbered_from (component_groups pointed) 0 its)) (sym (take-append-drop (i + 1) all)) ∙ ap first_group split.1 ∙ first-append (groups (i + 1)) split.0
      ∙ ap (λ before. or_group before (first_group split.0)) (groups-more none) in
      subst (λ group. TellsFirst group noted stop) (sym whole) (told-here (or_group faults []) (first_group split.0) noted stop (told-here faults [] noted stop told))

  -- the count of one component more
  pub count-more : (give : ℕ → Component → List ℕ) (before count : ℕ) → before ≡ sum (numbered_from give 0 (take i all)) → give i component ≡ count ∷ [] → before + count ≡ sum (numbered_from give 0 (take (i + 1) all))
  count-more give before count had gives =
      let more = ap sum (numbered-more give all i component within component_is ∙ ap (λ rest. numbered_from give 0 (take i all) ++ rest) gives) in
      ap (λ n. n + count) had ∙ sym (more ∙ sum_by_push (λ n. n) (numbered_from give 0 (take i all)) count)

front-or : (first : Option Refusal) (rest : List Refusal) → slice_get (option_to_list first ++ rest) 0 ≡ option_or first (slice_get rest 0)
front-or None rest = refl
front-or (Some refusal) rest = refl

faults-from : (pointed : Pointed) (number : ℕ) (components : List Component) → least (first_group (numbered_from (component_groups pointed) number components)) ≡ slice_get (numbered_from (component_fault pointed) number components) 0
faults-from pointed number [] = refl
faults-from pointed number (component ∷ more) =
    let faults = refusals_in pointed number (effective_in pointed.instance number) in
    let rest = first_group (numbered_from (component_groups pointed) (number + 1) more) in
    least-or faults rest ∙ ap (option_or (least faults)) (faults-from pointed (number + 1) more)
    ∙ sym (front-or (least faults) (numbered_from (component_fault pointed) (number + 1) more))

-- the first refusal of the components is that of their group
pub faults-least : (pointed : Pointed) → least (faults_group pointed) ≡ first_fault pointed
faults-least pointed = faults-from pointed 0 pointed.instance.components

-- of no component anything is refused
pub accepted-all : (pointed : Pointed) (i : ℕ) → length pointed.instance.components ≤ i → first_group (numbered_from (component_groups pointed) 0 (take i pointed.instance.components)) ≡ [] → first_fault pointed ≡ None
accepted-all pointed i past none =
    sym (faults-least pointed) ∙ ap least (ap (λ all. first_group (numbered_from (component_groups pointed) 0 all)) (sym (take_all i pointed.instance.components past)) ∙ none)

-- ---- what the second profile alone has

extra-by : (profile : Profile) (pointed : Pointed)
    → (flat_map (bound_links pointed false) (only_second profile (all_held pointed.instance))
    ++ (flat_map (bound_links pointed true) (only_second profile (all_functions pointed.instance)) ++ flat_map (carried_links pointed) (only_second profile (all_carried pointed.instance))))
    ≡ only_second profile (extra_links pointed)
extra-by First pointed = refl
extra-by Second pointed = refl

further-by : (profile : Profile) (instance : Instance)
    → (sum (map count_bound (only_second profile (all_held instance))) + (sum (map count_bound (only_second profile (all_functions instance))) + sum (map count_carried (only_second profile (all_carried instance)))))
    ≡ count_further profile instance
further-by First instance = refl
further-by Second instance = refl

-- the references of the further bindings
pub further-counted : (profile : Profile) (instance : Instance) (further : Further) (count : ℕ) → IsFurther profile instance further
    → count ≡ sum (map count_bound further.held) + (sum (map count_bound further.functions) + sum (map count_carried further.carried)) → count ≡ count_further profile instance
further-counted profile instance further count has is =
    is ∙ (λ i. sum (map count_bound (has.held i)) + (sum (map count_bound (has.functions i)) + sum (map count_carried (has.carried i)))) ∙ further-by profile instance

-- ---- the limit, and then the components

module _ (profile : Profile) (pointed made : Pointed) (same : made ≡ pointed) where
  -- where there are too many, that is the refusal
  pub limit-stops : (stop : Stop) → StopsAt (limit_refusal profile made) stop → StopsAt (option_or (limit_refusal profile pointed) (first_fault pointed)) stop
  limit-stops Memory over = tt
  limit-stops (Refused refusal) over = ap (λ o. option_or o (first_fault pointed)) (ap (limit_refusal profile) (sym same) ∙ over)

  within-limit : limit_refusal profile made ≡ None → first_fault made ≡ option_or (limit_refusal profile pointed) (first_fault pointed)
  within-limit none = ap first_fault same ∙ ap (λ o. option_or o (first_fault pointed)) (sym (ap (limit_refusal profile) (sym same) ∙ none))

  -- and else that of the components
  pub component-stops : (stop : Stop) → limit_refusal profile made ≡ None → StopsAt (first_fault made) stop → StopsAt (option_or (limit_refusal profile pointed) (first_fault pointed)) stop
  component-stops Memory none is = tt
  component-stops (Refused refusal) none is = sym (within-limit none) ∙ is

  -- what is told of the limit
  pub limit-told : (noted : Noted) (stop : Stop) → StopsAt (limit_refusal profile made) stop → TellsFirst (alone stop) noted stop → TellsFirst (or_group (option_to_list (limit_refusal profile pointed)) (faults_group pointed)) noted stop
  limit-told noted stop over told =
      told-here (option_to_list (limit_refusal profile pointed)) (faults_group pointed) noted stop
      (told-alone (limit_refusal profile pointed) noted stop (subst (λ (its : Pointed). StopsAt (limit_refusal profile its) stop) same over) told)

  -- and else of the components
  pub component-told : (noted : Noted) (stop : Stop) → limit_refusal profile made ≡ None → TellsFirst (faults_group made) noted stop → TellsFirst (or_group (option_to_list (limit_refusal profile pointed)) (faults_group pointed)) noted stop
  component-told noted stop none told =
      told-next (option_to_list (limit_refusal profile pointed)) (faults_group pointed) noted stop (ap option_to_list (ap (limit_refusal profile) (sym same) ∙ none))
      (subst (λ (its : Pointed). TellsFirst (faults_group its) noted stop) same told)

  pub all-accepted : limit_refusal profile made ≡ None → first_fault made ≡ None → option_or (limit_refusal profile pointed) (first_fault pointed) ≡ None
  all-accepted none nothing = sym (within-limit none) ∙ nothing

  -- the links of connections and paths, and those of bindings behind them
  pub all-linked : (links between after : List Link) (bounds : List BoundTo) (further : Further) → links ≡ connected made → bounds ≡ all_bounds pointed.instance → IsFurther profile pointed.instance further
      → between ≡ links ++ flat_map (bound_links made true) bounds
      → after ≡ between ++ (flat_map (bound_links made false) further.held ++ (flat_map (bound_links made true) further.functions ++ flat_map (carried_links made) further.carried))
      → after ≡ links_under profile pointed
  all-linked links between after bounds further are is has more last =
      let first : links ≡ connected pointed = are ∙ ap connected same in
      let two : between ≡ all_links pointed = more ∙ (λ i. first i ++ flat_map (bound_links (same i) true) (is i)) in
      let three : (flat_map (bound_links made false) further.held ++ (flat_map (bound_links made true) further.functions ++ flat_map (carried_links made) further.carried)) ≡ only_second profile (extra_links pointed) =
      (λ i. flat_map (bound_links (same i) false) (has.held i) ++ (flat_map (bound_links (same i) true) (has.functions i) ++ flat_map (carried_links (same i)) (has.carried i))) ∙ extra-by profile pointed in
      last ∙ (λ i. two i ++ three i)

-- the first refusal of the links is that of their group
pub links-least : (profile : Profile) (pointed : Pointed) → least (or_group (option_to_list (limit_refusal profile pointed)) (faults_group pointed)) ≡ option_or (limit_refusal profile pointed) (first_fault pointed)
links-least profile pointed =
    least-or (option_to_list (limit_refusal profile pointed)) (faults_group pointed)
    ∙ (λ i. option_or (least-one (limit_refusal profile pointed) i) (faults-least pointed i))
