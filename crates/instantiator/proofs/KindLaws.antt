-- The kinds so far: that of a classifier again, and with one more.
use Rattle.std.proofs.Common.{ℕ, zero, suc, ◌≡◌, Bool, true, false, ◌||◌, ◌&&◌, cond, List, [], ◌∷◌, ◌++◌, length, fold, get_or, map, slice_get, option_and_then, Option, Some, None, is_some, Ok, Contains, MatchOption, refl, sym, ap, ◌∙◌, subst, arith}
use Rattle.std.specs.Cmp.{first_so, second_so}
use Rattle.std.proofs.lemmas.Bool.{eq-eqb, eqb-true, false≢true}
use Rattle.std.proofs.lemmas.List.{length-map, map-append}
use Rattle.std.proofs.lemmas.List.Folds.{list_any-append}
use Rattle.std.proofs.lemmas.List.Quantifiers.{position-Some}
use Rattle.aadl_syntax.specs.declared.core_model.PackageUnit.{PackageUnit}
use Rattle.plain_values.specs.declared.refusal.Refusal.{Refusal}
use Rattle.plain_values.specs.declared.refusal.Stop.{Stop}
use Rattle.plain_values.specs.declared.refusal.Stop.TheVariants.{Memory, Refused}
use Rattle.plain_values.specs.Order.{IsFirst, least}
use Rattle.plain_values.proofs.OrderLaws.{first_once, least-first}
use Rattle.package_index.specs.declared.id.ClassifierId.{ClassifierId}
use Rattle.plain_values.specs.inner.Stops.{StopsAtFirst, StopsAt}
use Rattle.package_index.proofs.KnowsLaws.{some-place}
use Rattle.component_extension.specs.Chain.{is_among, same_id}
use Rattle.component_extension.specs.Items.{classifier_refusals}
use Rattle.instantiator.specs.declared.kinds.Kind.{Kind}
use Rattle.instantiator.specs.declared.path.Component.{Component}
use Rattle.instantiator.specs.inner.Tables.{AreKinds, Entered, kind_of}
use Rattle.instantiator.specs.Whole.{kind_number, kind_place, kinds_of, with_kind}
use Rattle.instantiator.specs.inner.Whole.{Kinds}
use Rattle.instantiator.proofs.Lists.{get-last, place-new, place-there}

-- ---- classifiers

same-is : (a b : ClassifierId) → same_id a b ≡ true → a ≡ b
same-is a b same =
    let home : a.«package» ≡ b.«package» = eqb-true a.«package» b.«package» (first_so _ _ same) in
    let decl : a.decl ≡ b.decl = eqb-true a.decl b.decl (second_so _ _ same) in
    λ i. record { «package» = home i; decl = decl i }

among-place : (ids : List ClassifierId) (id : ClassifierId) → is_some (kind_place ids id) ≡ is_among ids id
among-place ids id = some-place (λ other. same_id other id) ids

-- what has a place among the kinds stands there
pub kind-there : (ids : List ClassifierId) (id : ClassifierId) (number : ℕ) → kind_place ids id ≡ Some number → slice_get ids number ≡ Some id
kind-there ids id number is =
    let p = λ (other : ClassifierId). same_id other id in
    place-there p ids number id is ∙ ap Some (same-is (get_or ids number id) id (position-Some p ids number id is).1)

-- ---- the first refusal of a classifier

least-is : (group : List Refusal) (first : Refusal) (least : Option Refusal) → IsFirst (Contains group) first → MatchOption least (group ≡ []) (λ other. IsFirst (Contains group) other) → least ≡ Some first
least-is group first None is empty =
    let none : Contains [] first = subst (λ refusals. Contains refusals first) empty is.stands in
    absurd (omega (arith, none.1))
least-is group first (Some other) is other_is = ap Some (first_once (Contains group) other first other_is is)

-- a refusal of a group that comes first is the least of it
pub refused-stops : (group : List Refusal) (stop : Stop) → StopsAtFirst (Contains group) stop → StopsAt (least group) stop
refused-stops group Memory is = tt
refused-stops group (Refused first) is = least-is group first (least group) is (least-first group)

-- ---- kinds

module _ (packages : List PackageUnit) (kinds : List Kind) (table : ℕ × ℕ → Option ℕ) (are : AreKinds packages kinds table) where
  abbrev own : List ClassifierId
  own = map (λ kind. kind.classifier) kinds

  abbrev so_far : Kinds
  so_far = record { packages = packages; ids = own }

  again-here : (id : ClassifierId) (number : ℕ) → kind_place own id ≡ Some number → Entered so_far so_far (Ok (Some id)) (Some number)
  again-here id number is =
      let among : is_among own id ≡ true = sym (among-place own id) ∙ ap is_some is in
      record {
        kinds = ap (λ b. let more : Kinds = record { packages = packages; ids = cond b own (own ++ id ∷ []) } in more) (sym among);
        number = kind-there own id number is;
        accepted = ap least (are.accepted id among);
      }

  -- the kind of a classifier that is among them
  pub entered-again : (self : Kinds) → so_far ≡ self → (id : ClassifierId) (number : ℕ) → kind_place self.ids id ≡ Some number → Entered self self (Ok (Some id)) (Some number)
  entered-again self view id number is = subst (λ s. Entered s s (Ok (Some id)) (Some number)) view (again-here id number (ap (λ (s : Kinds). kind_place s.ids id) view ∙ is))

  module _ (kind : Kind) (is : kind ≡ kind_of packages kind.classifier) (clear : classifier_refusals packages kind.classifier ≡ []) (new : kind_place own kind.classifier ≡ None) (table' : ℕ × ℕ → Option ℕ)
      (added : (other : ClassifierId) → table' (other.«package», other.decl) ≡ cond (same_id kind.classifier other) (Some (length kinds)) (table (other.«package», other.decl))) where
    more : map (λ kind. kind.classifier) (kinds ++ kind ∷ []) ≡ own ++ kind.classifier ∷ []
    more = map-append (λ kind. kind.classifier) kinds (kind ∷ [])

    faultless : (other : ClassifierId) (a b : Bool) → is_among own other ≡ a → same_id kind.classifier other ≡ b → (a || (b || false)) ≡ true → classifier_refusals packages other ≡ []
    faultless other true b among same one = are.accepted other among
    faultless other false true among same one = ap (classifier_refusals packages) (sym (same-is kind.classifier other same)) ∙ clear
    faultless other false false among same one = absurd (false≢true one)

    -- the kinds with one more
    pub kinds-more : AreKinds packages (kinds ++ kind ∷ []) table'
    kinds-more = record {
      effective = (λ i. are.effective i ++ is i ∷ []) ∙ sym (map-append (kind_of packages) own (kind.classifier ∷ [])) ∙ ap (map (kind_of packages)) (sym more);
      known =
          λ other.
          let before : table (other.«package», other.decl) ≡ kind_place own other = are.known other in
          let none : same_id kind.classifier other ≡ true → table (other.«package», other.decl) ≡ None = λ same. before ∙ ap (kind_place own) (sym (same-is kind.classifier other same)) ∙ new in
          added other ∙ ap (λ n. cond (same_id kind.classifier other) (Some n) (table (other.«package», other.decl))) (sym (length-map kinds (λ kind. kind.classifier)))
          ∙ place-new (λ each. same_id each other) own kind.classifier (table (other.«package», other.decl)) (same_id kind.classifier other) refl before none
          ∙ ap (λ all. kind_place all other) (sym more);
      accepted =
          λ other among.
          faultless other (is_among own other) (same_id kind.classifier other) refl refl
          (sym (ap (λ all. is_among all other) more ∙ list_any-append (λ each. same_id each other) own (kind.classifier ∷ [])) ∙ among);
    }

-- the kind of a classifier that was not among them
pub entered-new : (old new : Kinds) (id : ClassifierId) (number : ℕ) → kind_place old.ids id ≡ None → classifier_refusals old.packages id ≡ [] → new ≡ record old { ids = old.ids ++ id ∷ [] } → number ≡ length old.ids → Entered old new (Ok (Some id)) (Some number)
entered-new old new id number none clear is last =
    let among : is_among old.ids id ≡ false = sym (among-place old.ids id) ∙ ap is_some none in
    record {
      kinds = is ∙ ap (λ b. let more : Kinds = record old { ids = cond b old.ids (old.ids ++ id ∷ []) } in more) (sym among);
      number = (λ i. slice_get (is i).ids (last i)) ∙ get-last old.ids id;
      accepted = ap least clear;
    }

-- ---- the kinds of components

or-true : (b : Bool) → (b || true) ≡ true
or-true true = refl
or-true false = refl

same-itself : (id : ClassifierId) → same_id id id ≡ true
same-itself id = (λ i. eq-eqb id.«package» id.«package» refl i && eq-eqb id.decl id.decl refl i)

module _ (id : ClassifierId) where
  more-among : (ids : List ClassifierId) (other : ClassifierId) (b : Bool) → is_among ids id ≡ true → is_among (cond b ids (ids ++ other ∷ [])) id ≡ true
  more-among ids other true among = among
  more-among ids other false among = list_any-append (λ each. same_id each id) ids (other ∷ []) ∙ ap (λ b. b || is_among (other ∷ []) id) among

  kept-among : (ids : List ClassifierId) (classifier : Option ClassifierId) → is_among ids id ≡ true → is_among (with_kind ids classifier) id ≡ true
  kept-among ids None among = among
  kept-among ids (Some other) among = more-among ids other (is_among ids other) among

  own-among : (ids : List ClassifierId) (b : Bool) → is_among ids id ≡ b → is_among (cond b ids (ids ++ id ∷ [])) id ≡ true
  own-among ids true is = is
  own-among ids false is = list_any-append (λ each. same_id each id) ids (id ∷ []) ∙ ap (λ b. is_among ids id || (b || false)) (same-itself id) ∙ or-true (is_among ids id)

  abbrev all_kinds : List ClassifierId → List Component → List ClassifierId
  all_kinds ids components = fold (λ kinds component. with_kind kinds component.classifier) ids components

  all-kept : (components : List Component) (ids : List ClassifierId) → is_among ids id ≡ true → is_among (all_kinds ids components) id ≡ true
  all-kept [] ids among = among
  all-kept (component ∷ components) ids among = all-kept components (with_kind ids component.classifier) (kept-among ids component.classifier among)

  all-among : (components : List Component) (ids : List ClassifierId) (number : ℕ) → option_and_then (λ component. component.classifier) (slice_get components number) ≡ Some id → is_among (all_kinds ids components) id ≡ true
  all-among [] ids number is = cc
  all-among (component ∷ components) ids zero is = all-kept components (with_kind ids component.classifier) (ap (λ c. is_among (with_kind ids c) id) is ∙ own-among ids (is_among ids id) refl)
  all-among (component ∷ components) ids (suc number) is = all-among components (with_kind ids component.classifier) number is

place-there-of : (ids : List ClassifierId) (id : ClassifierId) (place : Option ℕ) → kind_place ids id ≡ place → is_some place ≡ true → option_and_then (slice_get ids) place ≡ Some id
place-there-of ids id None is some = absurd (false≢true some)
place-there-of ids id (Some number) is some = kind-there ids id number is

-- the kind of a component is among the kinds
pub kind-is : (components : List Component) (ids : List ClassifierId) → ids ≡ kinds_of components → (number : ℕ) (classifier : Option ClassifierId) → option_and_then (λ component. component.classifier) (slice_get components number) ≡ classifier
    → option_and_then (slice_get ids) (kind_number ids classifier) ≡ classifier
kind-is components ids are number None is = refl
kind-is components ids are number (Some id) is =
    let among : is_among ids id ≡ true = ap (λ all. is_among all id) are ∙ all-among id components [] number is in
    place-there-of ids id (kind_place ids id) refl (among-place ids id ∙ among)
