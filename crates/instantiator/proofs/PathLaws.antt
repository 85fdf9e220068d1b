-- The paths of an instance: no two are the same, and each stands behind that which it goes on.
use Rattle.std.proofs.Common.{ℕ, zero, suc, ◌+◌, ◌-◌, ◌≡◌, ◌≢◌, ◌<◌, Bool, true, false, ◌||◌, List, [], ◌∷◌, ◌++◌, length, map, flat_map, slice_get, take, Option, Some, None, refl, sym, ap, ◌∙◌, subst, length-append, arith}
use Rattle.std.specs.List.{AllByRecursion, list_any}
use Rattle.std.proofs.lemmas.List.{append_assoc, append_cancel_left, append-nil}
use Rattle.std.proofs.Math.Seq.{take-append_seam}
use Rattle.std.proofs.lemmas.List.Folds.{list_any-append}
use Rattle.aadl_syntax.specs.declared.core_model.PackageUnit.{PackageUnit}
use Rattle.package_index.specs.declared.id.ClassifierId.{ClassifierId}
use Rattle.package_index.specs.Names.{front, is_same_name}
use Rattle.package_index.proofs.KnowsLaws.{some-place}
use Rattle.component_extension.specs.Chain.{chain_of}
use Rattle.component_extension.specs.Items.{classes_of}
use Rattle.component_extension.specs.Members.{subcomponents}
use Rattle.instantiator.specs.declared.occurrence.Occurrence.{Occurrence}
use Rattle.instantiator.specs.declared.path.Component.{Component}
use Rattle.instantiator.specs.Components.{Part, component_of, components_of, found, occurrence_of, occurrences_in, part_of, parts_of, preorder, root_of}
use Rattle.instantiator.specs.Effectives.{chain_or_none, effective_at, effective_of}
use Rattle.instantiator.specs.inner.Whole.{ParentsComeFirst, PathsDiffer}
use Rattle.instantiator.proofs.Apart.{AllPairs-from_Apart, Apart, apart-flat_map, apart-map, apart-unmap, apart-weaker, each-all, each-flat_map, each-map, each-weaker}
use Rattle.instantiator.proofs.MemberNames.{members-differ, name-same}

-- ---- parts

-- no two parts of a component have one name
pub parts-differ : (packages : List PackageUnit) (classifier : Option ClassifierId) → Apart (λ a b. a.name ≢ b.name) (parts_of packages (effective_at packages classifier))
unfolding effective_of
parts-differ packages None = tt
parts-differ packages (Some id) =
    let classes = classes_of packages (chain_or_none (chain_of packages id)) in
    apart-map (λ (a b : Part). a.name ≢ b.name) (part_of packages) (effective_of packages id).members.subcomponents
    (apart-unmap (λ a b. a ≢ b) (λ member. member.nearest.item.name) (effective_of packages id).members.subcomponents (members-differ subcomponents classes))

-- ---- what is below a path

-- the second path goes on from the first
abbrev pub Under : List (List ℕ) → List (List ℕ) → Type 0
Under front path = (rest : List (List ℕ)) × (path ≡ front ++ rest)

under-more : (front path : List (List ℕ)) (name : List ℕ) → Under (front ++ name ∷ []) path → Under front path
under-more front path name under = (name ∷ under.0, under.1 ∙ append_assoc front (name ∷ []) under.0)

pub under-apart : (front c d : List (List ℕ)) (x y : List ℕ) → x ≢ y → Under (front ++ x ∷ []) c → Under (front ++ y ∷ []) d → c ≢ d
under-apart front c d x y differ one two same =
    let paths : front ++ (x ∷ one.0) ≡ front ++ (y ∷ two.0) = sym (one.1 ∙ append_assoc front (x ∷ []) one.0) ∙ same ∙ (two.1 ∙ append_assoc front (y ∷ []) two.0) in
    let rest : x ∷ one.0 ≡ y ∷ two.0 = append_cancel_left front (x ∷ one.0) (y ∷ two.0) paths in
    let names : x ≡ y = cc in
    differ names

pub under-longer : (front path : List (List ℕ)) (name : List ℕ) → Under (front ++ name ∷ []) path → front ≢ path
under-longer front path name under same =
    let long : length front ≡ length (front ++ name ∷ []) + length under.0 = ap length (same ∙ under.1) ∙ length-append (front ++ name ∷ []) under.0 in
    absurd (omega (arith, long, length-append front (name ∷ [])))

-- whatever is under the one path is not under the other
abbrev pub Beside : Occurrence → Occurrence → Type 0
Beside a b = (c d : List (List ℕ)) → Under a.path c → Under b.path d → c ≢ d

abbrev Differ : Occurrence → Occurrence → Type 0
Differ a b = a.path ≢ b.path

module _ (packages : List PackageUnit) where
  abbrev pub parts : Occurrence → List Part
  parts one = parts_of packages (effective_at packages (found one.classifier))

  -- what holds of all that is below each part of a component
  pub below-each : (P : Occurrence → Type 0) (levels : ℕ) (one : Occurrence) → ((part : Part) → AllByRecursion P (preorder levels packages (occurrence_of one.path part))) → AllByRecursion P (flat_map (preorder levels packages) (occurrences_in packages one))
  below-each P levels one each =
      each-flat_map P (preorder levels packages) (occurrences_in packages one)
      (each-map (λ (x : Occurrence). AllByRecursion P (preorder levels packages x)) (occurrence_of one.path) (parts one) (each-all (λ part. AllByRecursion P (preorder levels packages (occurrence_of one.path part))) each (parts one)))

  pub all-under : (levels : ℕ) (one : Occurrence) → AllByRecursion (λ (o : Occurrence). Under one.path o.path) (preorder levels packages one)
  unfolding preorder
  all-under zero one = tt
  all-under (suc levels) one = (
    ([], sym (append-nil one.path)),
    below-each (λ (o : Occurrence). Under one.path o.path) levels one
        (λ part.
        each-weaker (λ (o : Occurrence). Under (one.path ++ part.name ∷ []) o.path) (λ (o : Occurrence). Under one.path o.path) (λ o. under-more one.path o.path part.name)
        (preorder levels packages (occurrence_of one.path part)) (all-under levels (occurrence_of one.path part))),
  )

  -- ---- no two paths are the same

  apart-below : (levels : ℕ) (a b : Occurrence) → Beside a b → AllByRecursion (λ x. AllByRecursion (Differ x) (preorder levels packages b)) (preorder levels packages a)
  apart-below levels a b beside =
      each-weaker (λ (x : Occurrence). Under a.path x.path) (λ x. AllByRecursion (Differ x) (preorder levels packages b))
      (λ x under. each-weaker (λ (y : Occurrence). Under b.path y.path) (Differ x) (λ y. beside x.path y.path under) (preorder levels packages b) (all-under levels b)) (preorder levels packages a) (all-under levels a)

  apart-occurrences : (one : Occurrence) → Apart Beside (occurrences_in packages one)
  apart-occurrences one =
      apart-map Beside (occurrence_of one.path) (parts one)
      (apart-weaker (λ (a b : Part). a.name ≢ b.name) (λ (a b : Part). Beside (occurrence_of one.path a) (occurrence_of one.path b)) (λ a b differ c d. under-apart one.path c d a.name b.name differ) (parts one) (parts-differ packages (found one.classifier)))

  apart-preorder : (levels : ℕ) (one : Occurrence) → Apart Differ (preorder levels packages one)
  unfolding preorder
  apart-preorder zero one = tt
  apart-preorder (suc levels) one = (
    below-each (Differ one) levels one
        (λ part.
        each-weaker (λ (o : Occurrence). Under (one.path ++ part.name ∷ []) o.path) (Differ one) (λ o. under-longer one.path o.path part.name) (preorder levels packages (occurrence_of one.path part))
        (all-under levels (occurrence_of one.path part))),
    apart-flat_map Differ (preorder levels packages) Beside (apart-below levels) (occurrences_in packages one) (apart-occurrences one)
        (each-map (λ (x : Occurrence). Apart Differ (preorder levels packages x)) (occurrence_of one.path) (parts one) (each-all (λ part. Apart Differ (preorder levels packages (occurrence_of one.path part))) (λ part. apart-preorder levels (occurrence_of one.path part)) (parts one))),
  )

  pub paths-differ : (root : ClassifierId) → PathsDiffer (components_of packages root)
  paths-differ root =
      AllPairs-from_Apart (λ (a b : Component). a.path ≢ b.path) (components_of packages root)
      (apart-map (λ (a b : Component). a.path ≢ b.path) component_of (preorder 34 packages (root_of root)) (apart-preorder 34 (root_of root)))

-- ---- parents come first

-- a component of this path is among them
abbrev Has : List Component → List (List ℕ) → Type 0
Has components path = list_any (λ component. is_same_name component.path path) components ≡ true

-- behind these components, each of the others stands behind that which its path goes on
abbrev Behind : List Component → List Occurrence → Type 0
Behind before [] = Unit {0}
Behind before (one ∷ more) = (0 < length one.path → Has before (front one.path)) × Behind (before ++ component_of one ∷ []) more

has-more : (before more : List Component) (path : List (List ℕ)) → Has before path → Has (before ++ more) path
has-more before more path has =
    let test = λ (component : Component). is_same_name component.path path in
    list_any-append test before more ∙ ap (λ b. b || list_any test more) has

has-last : (before : List Component) (component : Component) → Has (before ++ component ∷ []) component.path
has-last before component =
    let test = λ (other : Component). is_same_name other.path component.path in
    list_any-append test before (component ∷ []) ∙ ap (λ b. list_any test before || (b || false)) (name-same component.path component.path refl) ∙ or-true (list_any test before)
  where
    or-true : (b : Bool) → (b || true) ≡ true
    or-true true = refl
    or-true false = refl

behind-append : (before : List Component) (xs ys : List Occurrence) → Behind before xs → Behind (before ++ map component_of xs) ys → Behind before (xs ++ ys)
behind-append before [] ys a b = subst (λ front. Behind front ys) (append-nil before) b
behind-append before (x ∷ xs) ys a b =
    (a.0, behind-append (before ++ component_of x ∷ []) xs ys a.1 (subst (λ front. Behind front ys) (sym (append_assoc before (component_of x ∷ []) (map component_of xs))) b))

pub front-snoc : (path : List (List ℕ)) (name : List ℕ) → front (path ++ name ∷ []) ≡ path
front-snoc path name =
    let long : length (path ++ name ∷ []) - 1 ≡ length path = omega (arith, length-append path (name ∷ [])) in
    ap (λ n. take n (path ++ name ∷ [])) long ∙ take-append_seam path (name ∷ [])

behind-parts : (give : Occurrence → List Occurrence) (path : List (List ℕ)) → ((part : Part) (before : List Component) → Has before path → Behind before (give (occurrence_of path part))) → (parts : List Part) (before : List Component) → Has before path
    → Behind before (flat_map give (map (occurrence_of path) parts))
behind-parts give path each [] before has = tt
behind-parts give path each (part ∷ parts) before has =
    let here = give (occurrence_of path part) in
    behind-append before here (flat_map give (map (occurrence_of path) parts)) (each part before has) (behind-parts give path each parts (before ++ map component_of here) (has-more before (map component_of here) path has))

behind-preorder : (packages : List PackageUnit) (levels : ℕ) (one : Occurrence) (before : List Component) → (0 < length one.path → Has before (front one.path)) → Behind before (preorder levels packages one)
unfolding preorder
behind-preorder packages zero one before parent = tt
behind-preorder packages (suc levels) one before parent = (
  parent,
  behind-parts (preorder levels packages) one.path
      (λ part front has. behind-preorder packages levels (occurrence_of one.path part) front (λ some. subst (Has front) (sym (front-snoc one.path part.name)) has))
      (parts packages one) (before ++ component_of one ∷ []) (has-last before (component_of one)),
)

behind-at : (before : List Component) (xs : List Occurrence) (number : ℕ) (component : Component) → Behind before xs → slice_get (map component_of xs) number ≡ Some component → 0 < length component.path → Has (before ++ take number (map component_of xs)) (front component.path)
behind-at before [] number component behind there some = cc
behind-at before (x ∷ xs) zero component behind there some =
    let is : component_of x ≡ component = cc in
    let more : 0 < length x.path = subst (λ (c : Component). 0 < length c.path) (sym is) some in
    subst (λ (c : Component). Has (before ++ []) (front c.path)) is (subst (λ all. Has all (front x.path)) (sym (append-nil before)) (behind.0 more))
behind-at before (x ∷ xs) (suc number) component behind there some =
    subst (λ all. Has all (front component.path)) (append_assoc before (component_of x ∷ []) (take number (map component_of xs))) (behind-at (before ++ component_of x ∷ []) xs number component behind.1 there some)

pub parents-first : (packages : List PackageUnit) (root : ClassifierId) → ParentsComeFirst (components_of packages root)
parents-first packages root number component there some =
    let all = preorder 34 packages (root_of root) in
    let none : 0 < length (root_of root).path → ⊥ = λ less. absurd (omega (arith, less)) in
    let has = behind-at [] all number component (behind-preorder packages 34 (root_of root) [] (λ less. absurd (none less))) there some in
    some-place (λ other. is_same_name other.path (front component.path)) (take number (components_of packages root)) ∙ has
