-- The walk in preorder: a component, and then the parts below it, one after the other.
use Rattle.std.proofs.Common.{ℕ, suc, ◌+◌, ◌-◌, ◌≡◌, ◌<◌, ◌≤◌, List, [], ◌∷◌, ◌++◌, length, take, drop, get_or, map, flat_map, slice_get, option_and_then, Option, Some, None, refl, sym, ap, ◌∙◌, subst, append_assoc, length-append, arith}
use Rattle.std.specs.Option.{option_or}
use Rattle.std.proofs.lemmas.List.{append-nil, length-map, map-append, take-append-drop, take_more}
use Rattle.std.proofs.lemmas.Grind.{flat_map-append, fold-append}
use Rattle.aadl_syntax.specs.declared.core_model.PackageUnit.{PackageUnit}
use Rattle.plain_values.specs.declared.refusal.Stop.{Stop}
use Rattle.package_index.specs.declared.id.ClassifierId.{ClassifierId}
use Rattle.instantiator.specs.declared.draft.Draft.{Draft}
use Rattle.instantiator.specs.declared.occurrence.Occurrence.{Occurrence}
use Rattle.instantiator.specs.declared.path.Component.{Component}
use Rattle.instantiator.specs.Components.{Part, component_of, found, occurrence_of, parts_of, preorder}
use Rattle.instantiator.specs.Effectives.{effective_at}
use Rattle.noted_refusals.specs.Groups.{or_group}
use Rattle.noted_refusals.specs.inner.Noted.{Noted, TellsFirst}
use Rattle.noted_refusals.proofs.Laws.{told-here, told-next}
use Rattle.instantiator.specs.Refused.{component_group, component_refusal, first_refusal, groups_from}
use Rattle.instantiator.specs.inner.Tables.{Added, Grown}
use Rattle.instantiator.specs.Whole.{with_kind}
use Rattle.instantiator.specs.inner.Whole.{Kinds, with_kinds}
use Rattle.instantiator.proofs.GroupLaws.{groups-append, groups-none}
use Rattle.instantiator.proofs.Lists.{rest-less}

-- ---- the first refusal

or-assoc : {A : Type 0} (a b c : Option A) → option_or a (option_or b c) ≡ option_or (option_or a b) c
or-assoc None b c = refl
or-assoc (Some a) b c = refl

or-none : {A : Type 0} (a : Option A) → option_or a None ≡ a
or-none None = refl
or-none (Some a) = refl

pub first-append : (packages : List PackageUnit) (number : ℕ) (xs ys : List Occurrence) → first_refusal packages number (xs ++ ys) ≡ option_or (first_refusal packages number xs) (first_refusal packages (number + length xs) ys)
first-append packages number [] ys =
    let same : number ≡ number + 0 = omega arith in
    ap (λ n. first_refusal packages n ys) same
first-append packages number (one ∷ xs) ys =
    let count : number + 1 + length xs ≡ number + suc (length xs) = omega arith in
    ap (option_or (component_refusal packages number one)) (first-append packages (number + 1) xs ys ∙ ap (λ n. option_or (first_refusal packages (number + 1) xs) (first_refusal packages n ys)) count)
    ∙ or-assoc (component_refusal packages number one) (first_refusal packages (number + 1) xs) (first_refusal packages (number + suc (length xs)) ys)

-- ---- what is grown

kinds-append : (kinds : Kinds) (xs ys : List Component) → with_kinds (with_kinds kinds xs) ys ≡ with_kinds kinds (xs ++ ys)
kinds-append kinds xs ys =
    let each = λ (ids : List ClassifierId) (component : Component). with_kind ids component.classifier in
    ap (λ ids. let more : Kinds = record kinds { ids = ids } in more) (sym (fold-append each kinds.ids xs ys))

module _ (start now : Draft) (xs : List Occurrence) (grown : Grown start now xs) where
  pub kept : now.kinds.packages ≡ start.kinds.packages
  kept = ap (λ (kinds : Kinds). kinds.packages) grown.kinds

  longer : length now.components ≡ length start.components + length xs
  longer = ap length grown.components ∙ length-append start.components (map component_of xs) ∙ ap (λ n. length start.components + n) (length-map xs component_of)

  first-here : (ys : List Occurrence) → first_refusal now.kinds.packages (length now.components) ys ≡ first_refusal start.kinds.packages (length start.components + length xs) ys
  first-here ys = λ i. first_refusal (kept i) (longer i) ys

  pub grown-more : (next : Draft) (ys : List Occurrence) → Grown now next ys → Grown start next (xs ++ ys)
  grown-more next ys more = record {
    components =
        more.components ∙ ap (λ front. front ++ map component_of ys) grown.components ∙ append_assoc start.components (map component_of xs) (map component_of ys)
        ∙ ap (λ all. start.components ++ all) (sym (map-append component_of xs ys));
    kinds =
        more.kinds ∙ ap (λ kinds. with_kinds kinds (map component_of ys)) grown.kinds ∙ kinds-append start.kinds (map component_of xs) (map component_of ys)
        ∙ ap (with_kinds start.kinds) (sym (map-append component_of xs ys));
    accepted =
        first-append start.kinds.packages (length start.components) xs ys
        ∙ ap (λ o. option_or o (first_refusal start.kinds.packages (length start.components + length xs) ys)) grown.accepted
        ∙ sym (first-here ys) ∙ more.accepted;
  }

  pub tells-more : (ys rest : List Occurrence) (noted : Noted) (stop : Stop) → TellsFirst (groups_from now.kinds.packages (length now.components) ys) noted stop → TellsFirst (groups_from start.kinds.packages (length start.components) (xs ++ (ys ++ rest))) noted stop
  tells-more ys rest noted stop told =
      let packages = start.kinds.packages in
      let number = length start.components in
      let behind = number + length xs in
      let here : groups_from now.kinds.packages (length now.components) ys ≡ groups_from packages behind ys = λ i. groups_from (kept i) (longer i) ys in
      let whole = groups-append packages number xs (ys ++ rest) ∙ ap (or_group (groups_from packages number xs)) (groups-append packages behind ys rest) in
      subst (λ group. TellsFirst group noted stop) (sym whole)
      (told-next (groups_from packages number xs) (or_group (groups_from packages behind ys) (groups_from packages (behind + length ys) rest)) noted stop (groups-none packages xs number grown.accepted)
      (told-here (groups_from packages behind ys) (groups_from packages (behind + length ys) rest) noted stop (subst (λ group. TellsFirst group noted stop) here told)))

-- ---- a component and its parts

-- a component, and what is below these parts of it
abbrev pub walked : ℕ → List PackageUnit → Occurrence → List Part → List Occurrence
walked levels packages one parts = one ∷ flat_map (preorder levels packages) (map (occurrence_of one.path) parts)

walked-append : (levels : ℕ) (packages : List PackageUnit) (one : Occurrence) (xs ys : List Part) → walked levels packages one (xs ++ ys) ≡ walked levels packages one xs ++ flat_map (preorder levels packages) (map (occurrence_of one.path) ys)
walked-append levels packages one xs ys =
    ap (λ all. one ∷ flat_map (preorder levels packages) all) (map-append (occurrence_of one.path) xs ys)
    ∙ ap (λ all. one ∷ all) (flat_map-append (preorder levels packages) (map (occurrence_of one.path) xs) (map (occurrence_of one.path) ys))

-- a component with all its parts
pub walked-all : (packages : List PackageUnit) (one : Occurrence) → length one.path ≤ 33 → preorder (34 - length one.path) packages one ≡ walked (33 - length one.path) packages one (parts_of packages (effective_at packages (found one.classifier)))
unfolding preorder
walked-all packages one short =
    let levels : 34 - length one.path ≡ suc (33 - length one.path) = omega (arith, short) in
    ap (λ n. preorder n packages one) levels

-- a component that stops
pub tells-here : (packages : List PackageUnit) (number : ℕ) (one : Occurrence) (noted : Noted) (stop : Stop) → length one.path ≤ 33 → TellsFirst (component_group packages number one) noted stop → TellsFirst (groups_from packages number (preorder (34 - length one.path) packages one)) noted stop
tells-here packages number one noted stop short told =
    let rest = flat_map (preorder (33 - length one.path) packages) (map (occurrence_of one.path) (parts_of packages (effective_at packages (found one.classifier)))) in
    subst (λ all. TellsFirst (groups_from packages number all) noted stop) (sym (walked-all packages one short))
    (told-here (component_group packages number one) (groups_from packages (number + 1) rest) noted stop told)

module _ (one below : Occurrence) (start now : Draft) (parts : List Part) (i : ℕ) (part : Part) (within : i < length parts) (is : part ≡ get_or parts i part) (below_is : below ≡ occurrence_of one.path part) where
  abbrev levels : ℕ
  levels = 33 - length one.path

  abbrev so_far : List Part → List Occurrence
  so_far some = walked levels start.kinds.packages one some

  deeper : 34 - length below.path ≡ levels
  deeper =
      let long : length below.path ≡ length one.path + 1 = ap (λ (o : Occurrence). length o.path) below_is ∙ length-append one.path (part.name ∷ []) in
      omega (arith, long)

  below-part : (packages : List PackageUnit) → packages ≡ start.kinds.packages → preorder (34 - length below.path) packages below ≡ preorder levels start.kinds.packages (occurrence_of one.path part)
  below-part packages same = λ i. preorder (deeper i) (same i) (below_is i)

  front-more : take (i + 1) parts ≡ take i parts ++ part ∷ []
  front-more = take_more parts i part within ∙ ap (λ p. take i parts ++ p ∷ []) (sym is)

  split : parts ≡ take i parts ++ (part ∷ drop (i + 1) parts)
  split = sym (take-append-drop i parts) ∙ ap (λ rest. take i parts ++ rest) (rest-less parts i part within is)

  module _ (grown : Grown start now (so_far (take i parts))) where
    abbrev here : List Occurrence
    here = preorder (34 - length below.path) now.kinds.packages below

    here-is : here ≡ preorder levels start.kinds.packages (occurrence_of one.path part)
    here-is = below-part now.kinds.packages (kept start now (so_far (take i parts)) grown)

    pub part-added : (next : Draft) → Grown now next here → Grown start next (so_far (take (i + 1) parts))
    part-added next more =
        let one_part = preorder levels start.kinds.packages (occurrence_of one.path part) in
        let all : so_far (take i parts) ++ here ≡ so_far (take (i + 1) parts) =
        ap (λ more. so_far (take i parts) ++ more) (here-is ∙ sym (append-nil one_part)) ∙ sym (walked-append levels start.kinds.packages one (take i parts) (part ∷ [])) ∙ ap so_far (sym front-more) in
        subst (Grown start next) all (grown-more start now (so_far (take i parts)) grown next here more)

    pub part-tells : (noted : Noted) (stop : Stop) → TellsFirst (groups_from now.kinds.packages (length now.components) here) noted stop → TellsFirst (groups_from start.kinds.packages (length start.components) (so_far parts)) noted stop
    part-tells noted stop told =
        let rest = flat_map (preorder levels start.kinds.packages) (map (occurrence_of one.path) (drop (i + 1) parts)) in
        let all : so_far (take i parts) ++ (here ++ rest) ≡ so_far parts =
        ap (λ more. so_far (take i parts) ++ (more ++ rest)) here-is ∙ sym (walked-append levels start.kinds.packages one (take i parts) (part ∷ drop (i + 1) parts)) ∙ ap so_far (sym split) in
        subst (λ xs. TellsFirst (groups_from start.kinds.packages (length start.components) xs) noted stop) all (tells-more start now (so_far (take i parts)) grown here rest noted stop told)

-- the component that was added, with all its parts
pub whole : (start first : Draft) (one : Occurrence) (kind : Option ℕ) (parts : List Part) → Added start first one kind
    → parts ≡ parts_of first.kinds.packages (effective_at first.kinds.packages (option_and_then (slice_get first.kinds.ids) kind))
    → preorder (34 - length one.path) start.kinds.packages one ≡ walked (33 - length one.path) start.kinds.packages one parts
whole start first one kind parts added are =
    let short : length one.path ≤ 33 = omega (arith, added.short) in
    let same = kept start first (one ∷ []) added.grown in
    let all : parts ≡ parts_of start.kinds.packages (effective_at start.kinds.packages (found one.classifier)) = are ∙ (λ i. parts_of (same i) (effective_at (same i) (added.number i))) in
    walked-all start.kinds.packages one short ∙ ap (walked (33 - length one.path) start.kinds.packages one) (sym all)
