-- Steps from a component to its subcomponents, and the table of them.
use Rattle.std.proofs.Common.{ℕ, zero, suc, ◌+◌, ◌-◌, ◌≡◌, ◌≢◌, ◌<◌, Bool, true, false, ◌||◌, cond, List, [], ◌∷◌, ◌++◌, length, slice_get, get_or, take, drop, Option, Some, None, IsSome, is_some, option_and_then, refl, sym, ap, ◌∙◌, subst, length-append, arith}
use Rattle.std.specs.List.{list_any, position_from}
use Rattle.std.proofs.lemmas.Bool.{false≢true}
use Rattle.std.proofs.lemmas.Iterator.Adapters.{position_from-zero}
use Rattle.std.proofs.lemmas.List.{append_assoc, append-nil, length-take-le, take-append-drop}
use Rattle.std.proofs.lemmas.List.Folds.{list_any-append}
use Rattle.std.proofs.lemmas.List.Quantifiers.{position-Some}
use Rattle.std.proofs.lemmas.Option.{get_or_from_slice_get, slice_get-get_or, slice_get_within}
use Rattle.std.proofs.Math.Seq.{take-append-add}
use Rattle.package_index.specs.Names.{front, is_same_name}
use Rattle.package_index.proofs.KnowsLaws.{some-place}
use Rattle.instantiator.specs.declared.path.Component.{Component}
use Rattle.instantiator.specs.Components.{component_at, component_below}
use Rattle.instantiator.specs.inner.Whole.{ParentsComeFirst, PathsDiffer}
use Rattle.instantiator.proofs.MemberNames.{name-same, same-name}

abbrev pub is_at : List (List ℕ) → Component → Bool
is_at path component = is_same_name component.path path

pub not-so : (b : Bool) → (b ≡ true → ⊥) → b ≡ false
not-so true never = absurd (never refl)
not-so false never = refl

-- ---- the first that passes

-- the place of an item that passes, where none before it does
pub first-from : {A : Type 0} (p : A → Bool) (xs : List A) (n start : ℕ) (x : A) → slice_get xs n ≡ Some x → p x ≡ true → ((k : ℕ) → k < n → (y : A) → slice_get xs k ≡ Some y → p y ≡ false) → position_from p start xs ≡ Some (start + n)
first-from p [] n start x there passes before = cc
first-from p (y ∷ ys) zero start x there passes before =
    let is : y ≡ x = cc in
    let same : start ≡ start + 0 = omega arith in
    ap (λ b. cond b (Some start) (position_from p (start + 1) ys)) (ap p is ∙ passes) ∙ ap Some same
first-from p (y ∷ ys) (suc n) start x there passes before =
    let count : start + 1 + n ≡ start + suc n = omega arith in
    ap (λ b. cond b (Some start) (position_from p (start + 1) ys)) (before 0 (omega arith) y refl)
    ∙ first-from p ys n (start + 1) x there passes (λ k less z here. before (suc k) (omega (arith, less)) z here) ∙ ap Some count

module _ (components : List Component) (differ : PathsDiffer components) (behind : ParentsComeFirst components) where
  -- a component is at its path
  pub here : (number : ℕ) (component : Component) → slice_get components number ≡ Some component → component_at components component.path ≡ Some number
  here number component there =
      let before : (k : ℕ) → k < number → (other : Component) → slice_get components k ≡ Some other → is_at component.path other ≡ false =
      λ k less other at. not-so (is_at component.path other) (λ same. apart k less other at (same-name other.path component.path same)) in
      position_from-zero (is_at component.path) components ∙ first-from (is_at component.path) components number 0 component there (name-same component.path component.path refl) before ∙ ap Some zero-more
    where
      zero-more : 0 + number ≡ number
      zero-more = omega arith

      apart : (k : ℕ) → k < number → (other : Component) → slice_get components k ≡ Some other → other.path ≢ component.path
      apart k less other at same =
          differ k number component less (slice_get_within components number component there)
          (ap (λ (c : Component). c.path) (get_or_from_slice_get components k other component at) ∙ same ∙ sym (ap (λ (c : Component). c.path) (get_or_from_slice_get components number component component there)))

  -- what is at a path has it
  pub path-of : (path : List (List ℕ)) (number : ℕ) (d : Component) → component_at components path ≡ Some number → (slice_get components number ≡ Some (get_or components number d)) × ((get_or components number d).path ≡ path)
  path-of path number d at =
      let is = position-Some (is_at path) components number d at in
      (slice_get-get_or components number d is.0, same-name (get_or components number d).path path is.1)

  -- ---- parents

  any-take : (n : ℕ) (path : List (List ℕ)) → IsSome (component_at (take n components) path) → IsSome (component_at components path)
  any-take n path some =
      let has : list_any (is_at path) (take n components) ≡ true = sym (some-place (is_at path) (take n components)) ∙ some in
      some-place (is_at path) components ∙ ap (list_any (is_at path)) (sym (take-append-drop n components)) ∙ list_any-append (is_at path) (take n components) (drop n components)
      ∙ ap (λ b. b || list_any (is_at path) (drop n components)) has

  pub parent-there : (path : List (List ℕ)) (found : Option ℕ) → component_at components path ≡ found → 0 < length path → IsSome found → IsSome (component_at components (front path))
  parent-there path None at some is = absurd (false≢true is)
  parent-there path (Some number) at some is =
      let d : Component = record { path = []; classifier = None } in
      let there = path-of path number d at in
      let component = get_or components number d in
      any-take number (front path) (subst (λ p. IsSome (component_at (take number components) (front p))) there.1 (behind number component there.0 (subst (λ (p : List (List ℕ)). 0 < length p) (sym there.1) some)))

  -- where a path goes on from a name, the path up to that name is there too
  up-to : (n : ℕ) (path rest : List (List ℕ)) → length rest ≡ n → IsSome (component_at components (path ++ rest)) → IsSome (component_at components path)
  up-to zero path [] long some = subst (λ p. IsSome (component_at components p)) (append-nil path) some
  up-to zero path (name ∷ rest) long some = absurd (omega (arith, long))
  up-to (suc n) path rest long some =
      let whole : length (path ++ rest) ≡ length path + length rest = length-append path rest in
      let less : length (path ++ rest) - 1 ≡ length path + n = omega (arith, whole, long) in
      let front_is : front (path ++ rest) ≡ path ++ take n rest = ap (λ m. take m (path ++ rest)) less ∙ take-append-add path rest n in
      let shorter : length (take n rest) ≡ n = length-take-le n rest (omega (arith, long)) in
      up-to n path (take n rest) shorter (subst (λ p. IsSome (component_at components p)) front_is (parent-there (path ++ rest) (component_at components (path ++ rest)) refl (omega (arith, whole, long)) some))

  pub some-or-none : (a b : Option ℕ) → (IsSome a → IsSome b) → b ≡ None → a ≡ None
  some-or-none None b so none = refl
  some-or-none (Some n) b so none = absurd (false≢true (sym (ap is_some none) ∙ so refl))

  ends : (path rest : List (List ℕ)) (name : List ℕ) → component_at components (path ++ name ∷ []) ≡ None → component_at components (path ++ name ∷ rest) ≡ None
  ends path rest name none =
      let all : path ++ (name ∷ rest) ≡ (path ++ name ∷ []) ++ rest = sym (append_assoc path (name ∷ []) rest) in
      some-or-none (component_at components (path ++ name ∷ rest)) (component_at components (path ++ name ∷ []))
      (λ some. up-to (length rest) (path ++ name ∷ []) rest refl (subst (λ p. IsSome (component_at components p)) all some)) none

  -- ---- steps

  step-none-at : (number : ℕ) (name : List ℕ) (rest : List (List ℕ)) (found : Option Component) → slice_get components number ≡ found → option_and_then (λ c. component_at components (c.path ++ name ∷ [])) found ≡ None → option_and_then (λ c. component_at components (c.path ++ name ∷ rest)) found ≡ None
  step-none-at number name rest None at none = refl
  step-none-at number name rest (Some component) at none = ends component.path rest name none

  -- no step, and so no further one
  pub step-none : (number : ℕ) (name : List ℕ) (rest : List (List ℕ)) → component_below components number (name ∷ []) ≡ None → component_below components number (name ∷ rest) ≡ None
  step-none number name rest none = step-none-at number name rest (slice_get components number) refl none

  step-some-at : (name : List ℕ) (rest : List (List ℕ)) (next : ℕ) (found : Option Component) → option_and_then (λ c. component_at components (c.path ++ name ∷ [])) found ≡ Some next
      → (option_and_then (λ c. component_at components (c.path ++ name ∷ rest)) found ≡ component_below components next rest) × (next < length components)
  step-some-at name rest next None is = cc
  step-some-at name rest next (Some component) is =
      let there = path-of (component.path ++ name ∷ []) next component is in (
        sym (ap (option_and_then (λ c. component_at components (c.path ++ rest))) there.0 ∙ ap (λ p. component_at components (p ++ rest)) there.1 ∙ ap (component_at components) (append_assoc component.path (name ∷ []) rest)),
        slice_get_within components next (get_or components next component) there.0,
      )

  -- a step, and on from there
  pub step-some : (number : ℕ) (name : List ℕ) (rest : List (List ℕ)) (next : ℕ) → component_below components number (name ∷ []) ≡ Some next
      → (component_below components number (name ∷ rest) ≡ component_below components next rest) × (next < length components)
  step-some number name rest next is = step-some-at name rest next (slice_get components number) is

  -- no step stays there
  pub stay : (number : ℕ) → number < length components → component_below components number [] ≡ Some number
  stay number within =
      let d : Component = record { path = []; classifier = None } in
      let there = slice_get-get_or components number d within in
      ap (option_and_then (λ c. component_at components (c.path ++ []))) there ∙ ap (component_at components) (append-nil (get_or components number d).path) ∙ here number (get_or components number d) there

  -- ---- from the root

  first-root : (r : Component) → slice_get components 0 ≡ Some r → r.path ≡ []
  first-root r there = empty r.path (λ some. false≢true (behind 0 r there some))
    where
      empty : (p : List (List ℕ)) → (0 < length p → ⊥) → p ≡ []
      empty [] never = refl
      empty (x ∷ p) never = absurd (never (omega arith))

  from-root-at : (path : List (List ℕ)) (found : Option Component) → slice_get components 0 ≡ found → option_and_then (λ r. component_at components (r.path ++ path)) found ≡ component_at components path
  from-root-at path None at = sym (nothing components at)
    where
      nothing : (xs : List Component) → slice_get xs 0 ≡ None → component_at xs path ≡ None
      nothing [] none = refl
      nothing (x ∷ xs) none = cc
  from-root-at path (Some r) at = ap (λ p. component_at components (p ++ path)) (first-root r at)

  -- the names of a path lead to its component from the root
  pub from-root : (path : List (List ℕ)) → component_below components 0 path ≡ component_at components path
  from-root path = from-root-at path (slice_get components 0) refl
