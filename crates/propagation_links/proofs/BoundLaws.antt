-- Laws of what components are bound to.
use Rattle.std.proofs.Common.{ℕ, zero, suc, ◌+◌, ◌-◌, ◌*◌, ◌≡◌, ◌<◌, ◌≤◌, Bool, true, false, cond, ◌&&◌, ◌||◌, List, [], ◌∷◌, ◌++◌, filter, flat_map, length, get_or, map, sum, take, Option, Some, None, option_map, refl, sym, ap, ◌∙◌, subst, arith, length-append}
use Rattle.std.specs.List.{last_or, list_any}
use Rattle.std.specs.Option.{option_or}
use Rattle.std.proofs.lemmas.List.{get_or_default, map-append, take_all}
use Rattle.std.proofs.lemmas.List.Sums.{sum_by-cons, sum_by_push}
use Rattle.aadl_syntax.specs.declared.core_model.Binding.{Binding}
use Rattle.aadl_syntax.specs.declared.core_model.BindingKind.{BindingKind}
use Rattle.aadl_syntax.specs.declared.core_model.BindingKind.TheVariants.{Connection as OfConnection, Memory, Processor}
use Rattle.aadl_syntax.specs.declared.core_model.Connection.{Connection}
use Rattle.aadl_syntax.specs.declared.core_model.PackageUnit.{PackageUnit}
use Rattle.component_extension.specs.Members.{Member}
use Rattle.package_index.specs.Names.{is_same_name}
use Rattle.package_index.specs.declared.id.ClassifierId.{ClassifierId}
use Rattle.package_index.proofs.Loops.{numbered-more}
use Rattle.plain_values.specs.Numbered.{numbered_from}
use Rattle.instantiator.specs.declared.kinds.Kind.{Kind}
use Rattle.instantiator.specs.declared.path.Component.{Component}
use Rattle.instantiator.specs.inner.Tables.{kind_of}
use Rattle.instantiator.specs.Components.{component_below}
use Rattle.profiles.specs.declared.profile.Profile.TheVariants.{Second}
use Rattle.instantiator.specs.Whole.{Instance, effective_in}
use Rattle.propagation_links.specs.declared.bound.BoundTo.{BoundTo}
use Rattle.propagation_links.specs.Bound.{all_carried, all_held_in, bindings_by, binds, carried_by, carried_in, carried_with, counting, counting_along, held_in, is_guest_in, is_of, nearest, path_in, said, stated_among, stated_in}
use Rattle.propagation_links.specs.Refused.{count_bound, count_carried, count_in, count_links}
use Rattle.propagation_links.specs.Stated.{Carried, Stated}
use Rattle.propagation_links.specs.inner.Tables.{any_along, any_by, any_in}
use Rattle.propagation_links.proofs.FittingLaws.{front-more}

-- what is made of kinds is made of their classifiers
pub kinds-mapped : {B : Type 0} (packages : List PackageUnit) (f : Kind → B) (h : ClassifierId → B) → ((id : ClassifierId) → f (kind_of packages id) ≡ h id) → (ids : List ClassifierId) → map f (map (kind_of packages) ids) ≡ map h ids
kinds-mapped packages f h same [] = refl
kinds-mapped packages f h same (id ∷ ids) = λ i. same id i ∷ kinds-mapped packages f h same ids i

-- ---- what the components give, one after the other

module _ {Row : Type 0} (instance : Instance) (give : ℕ → Component → List Row) where
  -- that of one component more
  pub rows-more : (i : ℕ) → i < length instance.components → (before after more : List Row) → before ≡ numbered_from give 0 (take i instance.components) → after ≡ before ++ more → ((component : Component) → more ≡ give i component)
      → after ≡ numbered_from give 0 (take (i + 1) instance.components)
  rows-more i within before after more had are is =
      let component : Component = get_or instance.components i (record { path = []; classifier = None }) in
      are ∙ (λ j. had j ++ is component j) ∙ sym (numbered-more give instance.components i component within (get_or_default instance.components i (record { path = []; classifier = None }) component within))

  pub all-rows : (i : ℕ) → length instance.components ≤ i → (rows : List Row) → rows ≡ numbered_from give 0 (take i instance.components) → rows ≡ numbered_from give 0 instance.components
  all-rows i past rows are = are ∙ ap (numbered_from give 0) (take_all i instance.components past)

  -- at most so many for each component
  few-from-number : (most : ℕ) → ((number : ℕ) (component : Component) → length (give number component) ≤ most) → (components : List Component) (number : ℕ) → length (numbered_from give number components) ≤ length components * most
  few-from-number most few [] number = omega arith
  few-from-number most few (component ∷ components) number =
      more (length (give number component)) (length (numbered_from give (number + 1) components)) (length components) (few number component) (few-from-number most few components (number + 1))
      (length-append (give number component) (numbered_from give (number + 1) components))
    where
      more : (one rest count : ℕ) → one ≤ most → rest ≤ count * most → {whole : ℕ} → whole ≡ one + rest → whole ≤ suc count * most
      more one rest count a b is = grind arith

  pub each-few : (most : ℕ) → ((number : ℕ) (component : Component) → length (give number component) ≤ most) → length (numbered_from give 0 instance.components) ≤ length instance.components * most
  each-few most few = few-from-number most few instance.components 0

-- at most three hold for a component
pub held-few : (instance : Instance) (number : ℕ) → length (all_held_in instance number) ≤ 3
held-few instance number = by (is_guest_in instance OfConnection (Some number))
  where
    by : (guest : Bool) → length (held_in instance Processor number ∷ held_in instance Memory number ∷ cond guest (held_in instance OfConnection number ∷ []) []) ≤ 3
    by true = omega arith
    by false = omega arith

-- ---- connections for which a binding counts

or-false : (a b : Bool) → (a || b) ≡ false → (a ≡ false) × (b ≡ false)
or-false true b none = cc
or-false false b none = (refl, none)

module _ (instance : Instance) where
  one-each : (number : ℕ) (connection : Member Connection) (stated : Option Stated) → length (carried_with number connection stated) ≤ 1
  one-each number connection None = omega arith
  one-each number connection (Some stated) = omega arith

  one-for : (number : ℕ) (connections : List (Member Connection)) → length (flat_map (carried_by instance number) connections) ≤ length connections
  one-for number [] = omega arith
  one-for number (connection ∷ connections) =
      omega (
        arith,
        one-each number connection (counting Second instance OfConnection (path_in instance number ++ connection.nearest.item.name ∷ [])),
        one-for number connections,
        length-append (carried_by instance number connection) (flat_map (carried_by instance number) connections),
      )

  abbrev carry : ℕ → Component → List Carried
  carry number component = carried_in instance number

  abbrev counts : ℕ → Component → List ℕ
  counts number component = count_in (effective_in instance number) ∷ []

  few-step : (a b c d : ℕ) → a ≤ c → b ≤ d → a + b ≤ c + d
  few-step a b c d one rest = omega arith

  few-in : (number : ℕ) → length (carried_in instance number) ≤ count_in (effective_in instance number)
  few-in number = at-most (length (carried_in instance number)) (length (effective_in instance number).members.connections) (length (effective_in instance number).propagations.user_paths) (one-for number (effective_in instance number).members.connections)
    where
      at-most : (a b c : ℕ) → a ≤ b → a ≤ b + c
      at-most a b c less = omega arith

  few-from : (components : List Component) (number : ℕ) → length (numbered_from carry number components) ≤ sum (numbered_from counts number components)
  few-from [] number = omega arith
  few-from (component ∷ components) number =
      let rest = numbered_from carry (number + 1) components in
      let others = numbered_from counts (number + 1) components in
      subst (λ n. n ≤ sum (count_in (effective_in instance number) ∷ others)) (sym (length-append (carried_in instance number) rest))
      (subst (λ n. length (carried_in instance number) + length rest ≤ n) (sym (sum_by-cons (λ n. n) (count_in (effective_in instance number)) others))
      (few-step (length (carried_in instance number)) (length rest) (count_in (effective_in instance number)) (sum others) (few-in number) (few-from components (number + 1))))

  -- there are no more than there are connections
  pub carried-few : length (all_carried instance) ≤ count_links instance
  carried-few = few-from instance.components 0

  -- ---- where no component on the way has a binding of connections, none counts

  none-of : (names : List (List ℕ)) (bindings : List Binding) → list_any (is_of OfConnection) bindings ≡ false → filter (binds OfConnection names) bindings ≡ []
  none-of names [] none = refl
  none-of names (binding ∷ bindings) none =
      let apart = or-false (is_of OfConnection binding) (list_any (is_of OfConnection) bindings) none in
      ap (λ b. cond (b && list_any (λ target. is_same_name target names) binding.targets) (binding ∷ filter (binds OfConnection names) bindings) (filter (binds OfConnection names) bindings)) apart.0
      ∙ none-of names bindings apart.1

  none-by : (braced : Bool) (number : ℕ) (names : List (List ℕ)) → any_by braced instance number ≡ false → stated_among braced instance OfConnection number names ≡ None
  none-by braced number names none =
      ap (λ found. option_map (λ binding. record { component = number; references = binding.references; further = braced }) (last_or None found)) (none-of names (bindings_by braced (effective_in instance number)) none)

  none-in : (number : ℕ) (names : List (List ℕ)) → any_in instance number ≡ false → stated_in Second instance OfConnection number names ≡ None
  none-in number names none =
      let both = or-false (any_by false instance number) (any_by true instance number) none in
      λ i. option_or (none-by false number names both.0 i) (none-by true number names both.1 i)

  none-along : (component : Option ℕ) (path : List (List ℕ)) (name : List ℕ) → any_along instance component path ≡ false → counting_along Second instance OfConnection component (path ++ name ∷ []) ≡ None
  none-along None path name none = refl
  none-along (Some number) [] name none = ap (λ o. option_or o (counting_along Second instance OfConnection (component_below instance.components number (name ∷ [])) [])) (none-in number (name ∷ []) none) ∙ past (component_below instance.components number (name ∷ []))
    where
      past : (component : Option ℕ) → counting_along Second instance OfConnection component [] ≡ None
      past None = refl
      past (Some number) = refl
  none-along (Some number) (first ∷ path) name none =
      let here = or-false (any_in instance number) (any_along instance (component_below instance.components number (first ∷ [])) path) none in
      ap (λ o. option_or o (counting_along Second instance OfConnection (component_below instance.components number (first ∷ [])) (path ++ name ∷ []))) (none-in number (first ∷ path ++ name ∷ []) here.0)
      ∙ none-along (component_below instance.components number (first ∷ [])) path name here.1

  pub none-carried : (number : ℕ) → any_along instance (Some 0) (path_in instance number) ≡ false → (connections : List (Member Connection)) → flat_map (carried_by instance number) connections ≡ []
  none-carried number none [] = refl
  none-carried number none (connection ∷ connections) =
      (λ i. carried_with number connection (none-along (Some 0) (path_in instance number) connection.nearest.item.name none i) ++ flat_map (carried_by instance number) connections)
      ∙ none-carried number none connections

-- ---- what holds because it counts for a component around

-- the next component around
pub nearest-is : (instance : Instance) (kind : BindingKind) (path : List (List ℕ)) (count : ℕ) (own : Option Stated) → 0 < count → own ≡ said instance kind (take count path)
    → nearest instance kind path count ≡ option_or own (nearest instance kind path (count - 1))
nearest-is instance kind path zero own some is = absurd (omega arith)
nearest-is instance kind path (suc count) own some is =
    let back : suc count - 1 ≡ count = omega arith in
    (λ i. option_or (sym is i) (nearest instance kind path count)) ∙ ap (λ n. option_or own (nearest instance kind path n)) (sym back)

-- the references of what one component more is bound to
pub counted-more : (bounds : List BoundTo) (i : ℕ) (bound : BoundTo) → i < length bounds → bound ≡ get_or bounds i bound → (before count : ℕ) → before ≡ sum (map count_bound (take i bounds)) → count ≡ count_bound bound
    → before + count ≡ sum (map count_bound (take (i + 1) bounds))
counted-more bounds i bound within is before count had one =
    let more = ap (λ xs. sum (map count_bound xs)) (front-more bounds i bound within is) ∙ ap sum (map-append count_bound (take i bounds) (bound ∷ [])) ∙ sum_by_push (λ n. n) (map count_bound (take i bounds)) (count_bound bound) in
    (λ j. had j + one j) ∙ sym more

-- the references of one connection more
pub carried-more : (carried : List Carried) (i : ℕ) (one : Carried) → i < length carried → one ≡ get_or carried i one → (before count : ℕ) → before ≡ sum (map count_carried (take i carried)) → count ≡ count_carried one
    → before + count ≡ sum (map count_carried (take (i + 1) carried))
carried-more carried i one within is before count had counted =
    let more = ap (λ xs. sum (map count_carried xs)) (front-more carried i one within is) ∙ ap sum (map-append count_carried (take i carried) (one ∷ [])) ∙ sum_by_push (λ n. n) (map count_carried (take i carried)) (count_carried one) in
    (λ j. had j + counted j) ∙ sym more
