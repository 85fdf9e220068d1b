-- The components of a root are what names lead to, in the order of their paths.
use Rattle.std.proofs.Common.{ℕ, zero, suc, ◌+◌, ◌≡◌, ◌≢◌, ◌<◌, ◌≤◌, Bool, true, false, cond, nat_le, List, [], ◌∷◌, ◌++◌, length, map, flat_map, take, drop, find, Option, Some, None, option_and_then, option_map, inl, inr, refl, sym, ap, ◌∙◌, length-append, arith}
use Rattle.std.specs.List.{AllByRecursion}
use Rattle.std.specs.Option.{option_or}
use Rattle.std.proofs.lemmas.Bool.{cases_lt, false≢true}
use Rattle.std.proofs.lemmas.Bool.Decides.{nat_tests}
use Rattle.std.proofs.lemmas.List.{append_assoc, append-nil, length-take-le, take-append-drop}
use Rattle.std.proofs.lemmas.List.Folds.{find-append}
use Rattle.std.proofs.lemmas.Slice.Eq.{bytes_eq-Decides}
use Rattle.plain_values.specs.Name.{is_same_text}
use Rattle.aadl_syntax.specs.declared.core_model.PackageUnit.{PackageUnit}
use Rattle.plain_values.specs.declared.refusal.Code.TheVariants.{TooManyComponents, TooDeep}
use Rattle.plain_values.specs.Refusal.{over_limit}
use Rattle.package_index.specs.declared.id.ClassifierId.{ClassifierId}
use Rattle.package_index.specs.Names.{is_same_name}
use Rattle.instantiator.specs.declared.occurrence.Occurrence.{Occurrence}
use Rattle.instantiator.specs.declared.path.Component.{Component}
use Rattle.instantiator.specs.Components.{Part, component_of, found, occurrence_of, occurrences_in, occurrences_of, preorder, root_of}
use Rattle.instantiator.specs.inner.Reached.{AreReached, has_name, part_named, parts_at, reached}
use Rattle.instantiator.specs.Refused.{classifier_refusal, component_refusal, first_refusal, instance_refusal, limit_refusal}
use Rattle.instantiator.proofs.Apart.{Apart, each-weaker}
use Rattle.instantiator.proofs.InstanceLaws.{not-over, or-none}
use Rattle.instantiator.proofs.MemberNames.{name-same, same-name}
use Rattle.instantiator.proofs.PathLaws.{Under, all-under, parts-differ, under-apart}
use Rattle.instantiator.proofs.StepLaws.{not-so}

some-is : {A : Type 0} (a b : A) → Some a ≡ Some b → a ≡ b
some-is a b same = cc

-- ---- finding

find-none : {A : Type 0} (p : A → Bool) (xs : List A) → AllByRecursion (λ x. p x ≡ false) xs → find p xs ≡ None
find-none p [] each = refl
find-none p (x ∷ xs) each = ap (λ b. cond b (Some x) (find p xs)) each.0 ∙ find-none p xs each.1

find-map-case : {A B : Type 0} (f : A → B) (b : Bool) (x : A) (rest : Option B) (own : Option A) → rest ≡ option_map f own → cond b (Some (f x)) rest ≡ option_map f (cond b (Some x) own)
find-map-case f true x rest own same = refl
find-map-case f false x rest own same = same

find-map : {A B : Type 0} (p : B → Bool) (f : A → B) (xs : List A) → find p (map f xs) ≡ option_map f (find (λ x. p (f x)) xs)
find-map p f [] = refl
find-map p f (x ∷ xs) = find-map-case f (p (f x)) x (find p (map f xs)) (find (λ y. p (f y)) xs) (find-map p f xs)

find-passes-case : {A : Type 0} (p : A → Bool) (y : A) (rest : Option A) (x : A) (b : Bool) → p y ≡ b → cond b (Some y) rest ≡ Some x → (rest ≡ Some x → p x ≡ true) → p x ≡ true
find-passes-case p y rest x true passes is later = ap p (sym (some-is y x is)) ∙ passes
find-passes-case p y rest x false fails is later = later is

find-passes : {A : Type 0} (p : A → Bool) (xs : List A) (x : A) → find p xs ≡ Some x → p x ≡ true
find-passes p [] x is = cc
find-passes p (y ∷ ys) x is = find-passes-case p y (find p ys) x (p y) refl is (find-passes p ys x)

pub flat_map-map : {A B C : Type 0} (g : B → List C) (f : A → B) (xs : List A) → flat_map g (map f xs) ≡ flat_map (λ x. g (f x)) xs
flat_map-map g f [] = refl
flat_map-map g f (x ∷ xs) = ap (λ rest. g (f x) ++ rest) (flat_map-map g f xs)

or-none-right : {A : Type 0} (a : Option A) → option_or a None ≡ a
or-none-right None = refl
or-none-right (Some a) = refl

pub text-is : (a b : List ℕ) → is_same_text a b ≡ true → a ≡ b
text-is a b = (bytes_eq-Decides a b).0

pub text-same : (a b : List ℕ) → a ≡ b → is_same_text a b ≡ true
text-same a b = (bytes_eq-Decides a b).1

text-differs : (a b : List ℕ) → is_same_text a b ≡ false → a ≢ b
text-differs a b differs same = false≢true (sym differs ∙ text-same a b same)

-- ---- what is found at a path

module _ (packages : List PackageUnit) where
  abbrev reached_class : Occurrence → Option ClassifierId
  reached_class one = found one.classifier

  abbrev is_at : List (List ℕ) → Occurrence → Bool
  is_at path one = is_same_name one.path path

  module _ (levels : ℕ) (one : Occurrence) (name : List ℕ) (names : List (List ℕ)) where
    abbrev path : List (List ℕ)
    path = one.path ++ name ∷ names

    abbrev below : Part → List Occurrence
    below part = preorder levels packages (occurrence_of one.path part)

    -- no path that begins with another name is this one
    none-below : (part : Part) → part.name ≢ name → find (is_at path) (below part) ≡ None
    none-below part differ =
        find-none (is_at path) (below part)
        (each-weaker (λ (o : Occurrence). Under (one.path ++ part.name ∷ []) o.path) (λ o. is_at path o ≡ false)
        (λ o under. not-so (is_at path o) (λ same. under-apart one.path o.path path part.name name differ under (names, sym (append_assoc one.path (name ∷ []) names)) (same-name o.path path same))) (below part)
        (all-under packages levels (occurrence_of one.path part)))

    all-none : (parts : List Part) → AllByRecursion (λ (part : Part). part.name ≢ name) parts → find (is_at path) (flat_map below parts) ≡ None
    all-none [] each = refl
    all-none (part ∷ parts) each =
        find-append (is_at path) (below part) (flat_map below parts) ∙ (λ i. option_or (none-below part each.0 i) (all-none parts each.1 i))

    abbrev found_below : Option Part → Option Occurrence
    found_below part = option_and_then (λ part. find (is_at path) (below part)) part

    find-parts-case : (part : Part) (parts : List Part) (b : Bool) → has_name name part ≡ b → AllByRecursion (λ (other : Part). part.name ≢ other.name) parts → find (is_at path) (flat_map below parts) ≡ found_below (find (has_name name) parts)
        → find (is_at path) (below part ++ flat_map below parts) ≡ found_below (cond b (Some part) (find (has_name name) parts))
    find-parts-case part parts true passes differ rest =
        let is = text-is part.name name passes in
        let none = all-none parts (each-weaker (λ (other : Part). part.name ≢ other.name) (λ (other : Part). other.name ≢ name) (λ other apart same. apart (is ∙ sym same)) parts differ) in
        find-append (is_at path) (below part) (flat_map below parts) ∙ ap (option_or (find (is_at path) (below part))) none ∙ or-none-right (find (is_at path) (below part))
    find-parts-case part parts false fails differ rest =
        find-append (is_at path) (below part) (flat_map below parts) ∙ ap (λ o. option_or o (find (is_at path) (flat_map below parts))) (none-below part (text-differs part.name name fails)) ∙ rest

    -- what is found below parts is found below the one of the name
    find-parts : (parts : List Part) → Apart (λ (a b : Part). a.name ≢ b.name) parts → find (is_at path) (flat_map below parts) ≡ found_below (find (has_name name) parts)
    find-parts [] apart = refl
    find-parts (part ∷ parts) apart = find-parts-case part parts (has_name name part) refl apart.0 (find-parts parts apart.1)

    step-found : (part : Option Part) → find (has_name name) (parts_at packages (reached_class one)) ≡ part
        → ((part : Part) → option_map reached_class (find (is_at ((one.path ++ part.name ∷ []) ++ names)) (below part)) ≡ reached packages (found part.classifier) names)
        → option_map reached_class (found_below part) ≡ option_and_then (λ next. reached packages next names) (option_map (λ part. found part.classifier) part)
    step-found None is each = refl
    step-found (Some part) is each =
        let name_is = text-is part.name name (find-passes (has_name name) (parts_at packages (reached_class one)) part is) in
        let same : one.path ++ name ∷ names ≡ (one.path ++ part.name ∷ []) ++ names = ap (λ n. one.path ++ n ∷ names) (sym name_is) ∙ sym (append_assoc one.path (part.name ∷ []) names) in
        ap (λ p. option_map reached_class (find (is_at p) (below part))) same ∙ each part

  -- what is at a path, of the first so many levels, is what its names lead to
  found-in : (levels : ℕ) (one : Occurrence) (rest : List (List ℕ)) → length rest < levels → option_map reached_class (find (is_at (one.path ++ rest)) (preorder levels packages one)) ≡ reached packages (reached_class one) rest
  unfolding preorder
  found-in zero one rest less = absurd (omega (arith, less))
  found-in (suc levels) one [] less =
      let passes = name-same one.path (one.path ++ []) (sym (append-nil one.path)) in
      ap (λ b. option_map reached_class (cond b (Some one) (find (is_at (one.path ++ [])) (flat_map (preorder levels packages) (occurrences_in packages one))))) passes
  found-in (suc levels) one (name ∷ names) less =
      let all = one.path ++ name ∷ names in
      let fails = not-so (is_at all one) (λ same. let size : length one.path ≡ length all = ap length (same-name one.path all same) in absurd (omega (arith, size, length-append one.path (name ∷ names)))) in
      let parts = parts_at packages (reached_class one) in
      let rest = flat_map (preorder levels packages) (occurrences_in packages one) in
      ap (λ b. option_map reached_class (cond b (Some one) (find (is_at all) rest))) fails
      ∙ ap (option_map reached_class)
      (ap (find (is_at all)) (flat_map-map (preorder levels packages) (occurrence_of one.path) parts) ∙ find-parts levels one name names parts (parts-differ packages (reached_class one)))
      ∙ step-found levels one name names (find (has_name name) parts) refl (λ part. found-in levels (occurrence_of one.path part) names (omega (arith, less)))

  -- ---- paths that are too long

  reached-step : (xs ys : List (List ℕ)) (o : Option (Option ClassifierId)) → ((next : Option ClassifierId) → reached packages next (xs ++ ys) ≡ option_and_then (λ last. reached packages last ys) (reached packages next xs))
      → option_and_then (λ next. reached packages next (xs ++ ys)) o ≡ option_and_then (λ last. reached packages last ys) (option_and_then (λ next. reached packages next xs) o)
  reached-step xs ys None each = refl
  reached-step xs ys (Some next) each = each next

  reached-append : (classifier : Option ClassifierId) (xs ys : List (List ℕ)) → reached packages classifier (xs ++ ys) ≡ option_and_then (λ next. reached packages next ys) (reached packages classifier xs)
  reached-append classifier [] ys = refl
  reached-append classifier (x ∷ xs) ys = reached-step xs ys (part_named packages classifier x) (λ next. reached-append next xs ys)

  shallow : (all : List Occurrence) (number : ℕ) → first_refusal packages number all ≡ None → AllByRecursion (λ (o : Occurrence). length o.path ≤ 32) all
  shallow [] number none = tt
  shallow (one ∷ all) number none =
      let split = or-none (component_refusal packages number one) (first_refusal packages (number + 1) all) none in
      let limits = or-none (limit_refusal number one) (classifier_refusal packages one.classifier) split.0 in
      let depth = or-none (over_limit (nat_le 4096 number) TooManyComponents one.place) (over_limit (nat_le 33 (length one.path)) TooDeep one.place) limits.0 in
      let test = not-over (nat_le 33 (length one.path)) TooDeep one.place depth.1 in
      let short : length one.path ≤ 32 = grind (arith, nat_tests, test) in
      (short, shallow all (number + 1) split.1)

  module _ (root : ClassifierId) (accepted : instance_refusal packages root ≡ None) where
    abbrev all : List Occurrence
    all = occurrences_of packages root

    none-long : (p : List (List ℕ)) → 33 ≤ length p → find (is_at p) all ≡ None
    none-long p long =
        find-none (is_at p) all
        (each-weaker (λ (o : Occurrence). length o.path ≤ 32) (λ o. is_at p o ≡ false)
        (λ o short. not-so (is_at p o) (λ same. let size : length o.path ≡ length p = ap length (same-name o.path p same) in absurd (omega (arith, size, short, long)))) all (shallow all 0 accepted))

    reached-short : (p : List (List ℕ)) → length p < 34 → option_map reached_class (find (is_at p) all) ≡ reached packages (Some root) p
    reached-short p short = found-in 34 (root_of root) p short

    reached-long : (p : List (List ℕ)) → 34 ≤ length p → reached packages (Some root) p ≡ None
    reached-long p long =
        let size : length (take 33 p) ≡ 33 = length-take-le 33 p (omega (arith, long)) in
        let none = sym (reached-short (take 33 p) (omega (arith, size))) ∙ ap (option_map reached_class) (none-long (take 33 p) (omega (arith, size))) in
        ap (reached packages (Some root)) (sym (take-append-drop 33 p)) ∙ reached-append (Some root) (take 33 p) (drop 33 p) ∙ ap (option_and_then (λ next. reached packages next (drop 33 p))) none

    at-path : (p : List (List ℕ)) → option_map reached_class (find (is_at p) all) ≡ reached packages (Some root) p
    at-path p =
        elim (cases_lt (length p) 34) [
          | inl short ↦ reached-short p short
          | inr long ↦ ap (option_map reached_class) (none-long p (omega (arith, long))) ∙ sym (reached-long p long)
        ]

    class-of : (o : Option Occurrence) → option_map (λ (component : Component). component.classifier) (option_map component_of o) ≡ option_map reached_class o
    class-of None = refl
    class-of (Some one) = refl

    pub are-reached : AreReached packages root
    are-reached p =
        ap (option_map (λ (component : Component). component.classifier)) (find-map (λ (component : Component). is_same_name component.path p) component_of all) ∙ class-of (find (is_at p) all) ∙ at-path p
