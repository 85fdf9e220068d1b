-- The table of steps with one component more.
use Rattle.std.proofs.Common.{ℕ, zero, suc, ◌+◌, ◌≡◌, ◌<◌, ◌≤◌, Bool, true, false, ◌&&◌, Bor, cond, List, [], ◌∷◌, ◌++◌, length, map, slice_get, get_or, take, inl, inr, Option, Some, None, IsSome, is_some, option_and_then, refl, sym, ap, ◌∙◌, subst, length-append, arith}
use Rattle.std.specs.Cmp.{first_so, second_so}
use Rattle.std.proofs.lemmas.Bool.{eq-eqb, eqb-true, false≢true, cases_lt}
use Rattle.std.proofs.lemmas.List.{append_cancel_left, get_or-take, length-take-le, take_more}
use Rattle.std.proofs.lemmas.List.Quantifiers.{position-Some}
use Rattle.std.proofs.lemmas.Option.{slice_get-get_or, slice_get_past, slice_get_within}
use Rattle.std.proofs.lemmas.Slice.Eq.{bytes_eq-Decides}
use Rattle.package_index.specs.Names.{front, is_same_name}
use Rattle.instantiator.specs.declared.path.Component.{Component}
use Rattle.instantiator.specs.Components.{component_at, component_below}
use Rattle.instantiator.specs.inner.Tables.{IsTree, KnowsSteps, StepKey, same_step}
use Rattle.instantiator.specs.inner.Whole.{ParentsComeFirst, PathsDiffer}
use Rattle.instantiator.proofs.Lists.{get-last, place-new}
use Rattle.instantiator.proofs.MemberNames.{name-same, same-name}
use Rattle.instantiator.proofs.PathLaws.{front-snoc}
use Rattle.instantiator.proofs.StepLaws.{from-root, here, is_at, not-so, parent-there, path-of, some-or-none}

abbrev nowhere : Component
nowhere = record { path = []; classifier = None }

get-take : {A : Type 0} (n : ℕ) (xs : List A) (k : ℕ) → k < n → slice_get (take n xs) k ≡ slice_get xs k
get-take zero xs k less = absurd (omega (arith, less))
get-take (suc n) [] k less = refl
get-take (suc n) (x ∷ xs) zero less = refl
get-take (suc n) (x ∷ xs) (suc k) less = get-take n xs k (omega (arith, less))

take-take : {A : Type 0} (n : ℕ) (xs : List A) (k : ℕ) → k ≤ n → take k (take n xs) ≡ take k xs
take-take n xs zero less = refl
take-take zero xs (suc k) less = absurd (omega (arith, less))
take-take (suc n) [] (suc k) less = refl
take-take (suc n) (x ∷ xs) (suc k) less = ap (λ t. x ∷ t) (take-take n xs k (omega (arith, less)))

get-front : {A : Type 0} (xs ys : List A) (k : ℕ) → k < length xs → slice_get (xs ++ ys) k ≡ slice_get xs k
get-front [] ys k less = absurd (omega (arith, less))
get-front (x ∷ xs) ys zero less = refl
get-front (x ∷ xs) ys (suc k) less = get-front xs ys k (omega (arith, less))

some-is : {A : Type 0} (a b : A) → Some a ≡ Some b → a ≡ b
some-is a b same = cc

only-is : (a b : List ℕ) → a ∷ [] ≡ b ∷ [] → a ≡ b
only-is a b same = cc

pub map-empty : {A B : Type 0} (f : A → B) (xs : List A) → length xs ≡ 0 → map f xs ≡ []
map-empty f [] none = refl
map-empty f (x ∷ xs) none = absurd (omega (arith, none))

both-so : (a b : Bool) → (a ≡ true → b ≡ true) → (b ≡ true → a ≡ true) → a ≡ b
both-so true b there back = sym (there refl)
both-so false true there back = absurd (false≢true (back refl))
both-so false false there back = refl

module _ (components : List Component) (differ : PathsDiffer components) (behind : ParentsComeFirst components) (n : ℕ) (c : Component) (within : n < length components) (is : c ≡ get_or components n c) where
  abbrev before : List Component
  before = take n components

  long : length before ≡ n
  long = length-take-le n components (omega (arith, within))

  more : take (n + 1) components ≡ before ++ c ∷ []
  more = take_more components n c within ∙ ap (λ x. before ++ x ∷ []) (sym is)

  differ-before : PathsDiffer before
  differ-before i j d less inside same =
      let j_less : j < n = omega (arith, long, inside) in
      differ i j d less (omega (arith, within, j_less))
      (ap (λ (x : Component). x.path) (sym (get_or-take n components i d (omega (arith, j_less, less)))) ∙ same ∙ ap (λ (x : Component). x.path) (get_or-take n components j d j_less))

  behind-before : ParentsComeFirst before
  behind-before number component there some =
      let less : number < n = omega (arith, long, slice_get_within before number component there) in
      subst (λ all. IsSome (component_at all (front component.path))) (sym (take-take n components number (omega (arith, less)))) (behind number component (sym (get-take n components number less) ∙ there) some)

  -- the components before this one are a tree too
  pub tree-before : (table : StepKey → Option ℕ) → KnowsSteps before table → IsTree before table
  tree-before table known = record { differ = differ-before; behind = behind-before; known = known }

  -- ---- the path of this one is new

  new-at : (path : List (List ℕ)) (found : Option ℕ) → component_at before path ≡ found → c.path ≡ path → found ≡ None
  new-at path None at same = refl
  new-at path (Some k) at same =
      let there = path-of before differ-before behind-before path k c at in
      let less : k < n = omega (arith, long, slice_get_within before k (get_or before k c) there.0) in
      absurd (differ k n c less within (ap (λ (x : Component). x.path) (sym (get_or-take n components k c less)) ∙ there.1 ∙ sym same ∙ ap (λ (x : Component). x.path) is))

  under-new : (name : List ℕ) → component_at before (c.path ++ name ∷ []) ≡ None
  under-new name =
      let path = c.path ++ name ∷ [] in
      let some : 0 < length path = omega (arith, length-append c.path (name ∷ [])) in
      some-or-none before differ-before behind-before (component_at before path) (component_at before c.path)
      (λ found. subst (λ p. IsSome (component_at before p)) (front-snoc c.path name) (parent-there before differ-before behind-before path (component_at before path) refl some found)) (new-at c.path (component_at before c.path) refl refl)

  longer : (name : List ℕ) → is_same_name c.path (c.path ++ name ∷ []) ≡ false
  longer name =
      not-so (is_same_name c.path (c.path ++ name ∷ []))
      (λ same.
      let size : length c.path ≡ length (c.path ++ name ∷ []) = ap length (same-name c.path (c.path ++ name ∷ []) same) in
      absurd (omega (arith, size, length-append c.path (name ∷ []))))

  -- ---- steps with one component more

  abbrev all : List Component
  all = before ++ c ∷ []

  at-new : (k : ℕ) (name : List ℕ) → k ≡ n → component_below all k (name ∷ []) ≡ None
  at-new k name same =
      let there : slice_get all k ≡ Some c = ap (slice_get all) (same ∙ sym long) ∙ get-last before c in
      ap (option_and_then (λ d. component_at all (d.path ++ name ∷ []))) there
      ∙ sym (place-new (is_at (c.path ++ name ∷ [])) before c None false (longer name) (sym (under-new name)) (λ never. refl))

  past : (k : ℕ) (name : List ℕ) → n < k → component_below all k (name ∷ []) ≡ None
  past k name less =
      let size : length all ≤ k = omega (arith, length-append before (c ∷ []), long, less) in
      ap (option_and_then (λ d. component_at all (d.path ++ name ∷ []))) (slice_get_past all k size)

  out : (k : ℕ) (name : List ℕ) → n ≤ k → component_below all k (name ∷ []) ≡ None
  out k name far = elim (cases_lt n k) [ inl less ↦ past k name less | inr not_less ↦ at-new k name (omega (arith, far, not_less)) ]

  none-before : (k : ℕ) (name : List ℕ) → n ≤ k → component_below before k (name ∷ []) ≡ None
  none-before k name far = ap (option_and_then (λ d. component_at before (d.path ++ name ∷ []))) (slice_get_past before k (omega (arith, long, far)))

  -- whether the key of a step is that of this component, in words of its path
  abbrev IsStep : ℕ → List ℕ → Bool → Type 0
  IsStep k name b = (d : Component) → slice_get before k ≡ Some d → is_same_name c.path (d.path ++ name ∷ []) ≡ b

  step-within : (k : ℕ) (name : List ℕ) (b : Bool) (t : Option ℕ) → t ≡ component_below before k (name ∷ []) → IsStep k name b → k < n → cond b (Some n) t ≡ component_below all k (name ∷ [])
  step-within k name b t known step less =
      let d = get_or before k c in
      let inside : k < length before = omega (arith, long, less) in
      let there : slice_get before k ≡ Some d = slice_get-get_or before k c inside in
      let path = d.path ++ name ∷ [] in
      let passes : is_at path c ≡ b = step d there in
      let t_is : t ≡ component_at before path = known ∙ ap (option_and_then (λ x. component_at before (x.path ++ name ∷ []))) there in
      let none : b ≡ true → t ≡ None = λ so. t_is ∙ new-at path (component_at before path) refl (same-name c.path path (passes ∙ so)) in
      ap (λ m. cond b (Some m) t) (sym long) ∙ place-new (is_at path) before c t b passes t_is none
      ∙ sym (ap (option_and_then (λ x. component_at all (x.path ++ name ∷ []))) (get-front before (c ∷ []) k inside ∙ there))

  -- the step of a key, with this component
  pub step-more : (k : ℕ) (name : List ℕ) (b : Bool) (t : Option ℕ) → t ≡ component_below before k (name ∷ []) → IsStep k name b → (n ≤ k → b ≡ false) → cond b (Some n) t ≡ component_below (take (n + 1) components) k (name ∷ [])
  step-more k name b t known step outside =
      elim (cases_lt k n) [
        | inl less ↦ step-within k name b t known step less ∙ sym (ap (λ cs. component_below cs k (name ∷ [])) more)
        | inr far ↦
            ap (λ a. cond a (Some n) t) (outside far) ∙ known ∙ none-before k name far ∙ sym (out k name far) ∙ sym (ap (λ cs. component_below cs k (name ∷ [])) more)
      ]

  -- ---- what the code does

  module _ (table : StepKey → Option ℕ) (known : KnowsSteps before table) where
    -- the root makes no step
    pub root-more : c.path ≡ [] → KnowsSteps (take (n + 1) components) table
    root-more empty key =
        step-more key.0 key.1.now false (table key) (known key)
        (λ d there.
        not-so (is_same_name c.path (d.path ++ key.1.now ∷ []))
        (λ same.
        let size : 0 ≡ length (d.path ++ key.1.now ∷ []) = ap length (sym empty ∙ same-name c.path (d.path ++ key.1.now ∷ []) same) in
        absurd (omega (arith, size, length-append d.path (key.1.now ∷ [])))))
        (λ far. refl)

    module _ (path : List (List ℕ)) (last : List ℕ) (path_is : c.path ≡ path ++ last ∷ []) where
      parent-found : IsSome (component_at before path)
      parent-found =
          let some : 0 < length c.path = omega (arith, ap length path_is, length-append path (last ∷ [])) in
          let there : slice_get components n ≡ Some c = slice_get-get_or components n c within ∙ ap Some (sym is) in
          subst (λ p. IsSome (component_at before p)) (ap front path_is ∙ front-snoc path last) (behind n c there some)

      -- a component below the root has one of which it is a subcomponent
      pub parent-is : component_below before 0 path ≡ None → ⊥
      parent-is none = false≢true (ap is_some (sym none ∙ from-root before differ-before behind-before path) ∙ parent-found)

      module _ (parent : ℕ) (name : Bor (List ℕ)) (name_is : name.now ≡ last) (found : component_below before 0 path ≡ Some parent) where
        at-parent : component_at before path ≡ Some parent
        at-parent = sym (from-root before differ-before behind-before path) ∙ found

        parent-less : parent < n
        parent-less = omega (arith, long, (position-Some (is_at path) before parent c at-parent).0)

        step-key : (key : StepKey) → IsStep key.0 key.1.now (same_step (parent, name) key)
        step-key key d there =
            both-so (is_same_name c.path (d.path ++ key.1.now ∷ [])) (same_step (parent, name) key)
            (λ same.
            let paths : path ++ last ∷ [] ≡ d.path ++ key.1.now ∷ [] = sym path_is ∙ same-name c.path (d.path ++ key.1.now ∷ []) same in
            let fronts : path ≡ d.path = sym (front-snoc path last) ∙ ap front paths ∙ front-snoc d.path key.1.now in
            let lasts : last ∷ [] ≡ key.1.now ∷ [] = append_cancel_left d.path (last ∷ []) (key.1.now ∷ []) (ap (λ p. p ++ last ∷ []) (sym fronts) ∙ paths) in
            let numbers : Some parent ≡ Some key.0 = sym at-parent ∙ ap (component_at before) fronts ∙ here before differ-before behind-before key.0 d there in
            let number : parent ≡ key.0 = some-is parent key.0 numbers in
            let texts : last ≡ key.1.now = only-is last key.1.now lasts in
            (λ i. eq-eqb parent key.0 number i && (bytes_eq-Decides name.now key.1.now).1 (name_is ∙ texts) i))
            (λ same.
            let number : parent ≡ key.0 = eqb-true parent key.0 (first_so _ _ same) in
            let texts : name.now ≡ key.1.now = (bytes_eq-Decides name.now key.1.now).0 (second_so _ _ same) in
            let own = path-of before differ-before behind-before path parent c at-parent in
            let components_are : Some d ≡ Some (get_or before parent c) = sym there ∙ ap (slice_get before) (sym number) ∙ own.0 in
            let component_is : d ≡ get_or before parent c = some-is d (get_or before parent c) components_are in
            let d_path : d.path ≡ path = ap (λ (x : Component). x.path) component_is ∙ own.1 in
            name-same c.path (d.path ++ key.1.now ∷ []) (path_is ∙ (λ i. sym d_path i ++ (sym name_is ∙ texts) i ∷ [])))

        -- the table with the step to this component
        pub step-added : (table' : StepKey → Option ℕ) → ((key : StepKey) → table' key ≡ cond (same_step (parent, name) key) (Some n) (table key)) → KnowsSteps (take (n + 1) components) table'
        step-added table' added key =
            added key
            ∙ step-more key.0 key.1.now (same_step (parent, name) key) (table key) (known key) (step-key key)
            (λ far. not-so (same_step (parent, name) key) (λ same. let number : parent ≡ key.0 = eqb-true parent key.0 (first_so _ _ same) in absurd (omega (arith, number, parent-less, far))))
