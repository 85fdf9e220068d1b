-- No two members of a kind have one name.
use Rattle.std.proofs.Common.{ℕ, ◌≡◌, ◌≢◌, Bool, true, false, ◌&&◌, filter, List, [], ◌∷◌, fold, get_or, map, Option, Some, None, is_some, refl, sym, ap, ◌∙◌, subst}
use Rattle.std.specs.Cmp.{first_so}
use Rattle.std.specs.Cmp.Lexicographic.{pointwise_decides, bytes_decides}
use Rattle.std.specs.List.{AllByRecursion, list_any}
use Rattle.std.proofs.lemmas.Bool.{false≢true}
use Rattle.std.proofs.lemmas.List.{map-append}
use Rattle.std.proofs.lemmas.List.Elements.{recursion_from_All}
use Rattle.std.proofs.lemmas.List.Folds.{list_any_at}
use Rattle.std.proofs.lemmas.List.Quantifiers.{position-Some}
use Rattle.std.proofs.Math.Seq.{map-set_same}
use Rattle.plain_values.specs.Name.{is_same_text}
use Rattle.package_index.specs.Names.{is_same_name}
use Rattle.package_index.proofs.KnowsLaws.{some-place}
use Rattle.component_extension.specs.Members.{Class, Declared, Kind, Member, declarations, declare, marks_of, member_key, members_along, refined_by, stands}
use Rattle.component_extension.specs.Rows.{goes_by, named, place_by, put_at, row_by}
use Rattle.instantiator.proofs.Apart.{Apart, apart-append, each-map}

-- no two of these names are the same
abbrev pub NamesDiffer : List (List ℕ) → Type 0
NamesDiffer names = Apart (λ a b. a ≢ b) names

-- names are the same as their test says
pub same-name : (a b : List (List ℕ)) → is_same_name a b ≡ true → a ≡ b
same-name a b = (pointwise_decides {E = is_same_text} bytes_decides a b).0

pub name-same : (a b : List (List ℕ)) → a ≡ b → is_same_name a b ≡ true
name-same a b = (pointwise_decides {E = is_same_text} bytes_decides a b).1

module _ {Item : Type 0} (kind : Kind Item) where
  abbrev name_of : Member Item → List ℕ
  name_of member = kind.name member.nearest.item

  abbrev has : List ℕ → Member Item → Bool
  has name member = goes_by (named name) (member_key kind member)

  has-same : (name : List ℕ) (member : Member Item) → has name member ≡ true → name_of member ≡ name
  has-same name member goes =
      let same : name_of member ∷ [] ≡ name ∷ [] = same-name (name_of member ∷ []) (name ∷ []) (first_so _ _ (first_so _ _ goes)) in
      cc

  same-has : (name : List ℕ) (member : Member Item) → name_of member ≡ name → has name member ≡ true
  same-has name member same = ap (λ b. (b && true) && true) (name-same (name_of member ∷ []) (name ∷ []) (ap (λ n. n ∷ []) same))

  -- a member is put in place of that of its name, or last
  put-differ : (members : List (Member Item)) (row : Member Item) (place : Option ℕ) → place_by (member_key kind) members (named (name_of row)) ≡ place → NamesDiffer (map name_of members) → NamesDiffer (map name_of (put_at place members row))
  put-differ members row None none differ =
      let absent : list_any (has (name_of row)) members ≡ false = sym (some-place (has (name_of row)) members) ∙ ap is_some none in
      let apart : AllByRecursion (λ (m : Member Item). name_of m ≢ name_of row) members =
      recursion_from_All (λ m. name_of m ≢ name_of row) members (λ k d within same. false≢true (sym absent ∙ list_any_at (has (name_of row)) members k d within (same-has (name_of row) (get_or members k d) same))) in
      subst NamesDiffer (sym (map-append name_of members (row ∷ [])))
      (apart-append (λ a b. a ≢ b) (map name_of members) (name_of row ∷ []) differ (tt, tt) (each-map (λ a. AllByRecursion (λ b. a ≢ b) (name_of row ∷ [])) name_of members (with-none members apart)))
    where
      with-none : (xs : List (Member Item)) → AllByRecursion (λ (m : Member Item). name_of m ≢ name_of row) xs → AllByRecursion (λ (m : Member Item). AllByRecursion (λ b. name_of m ≢ b) (name_of row ∷ [])) xs
      with-none [] each = tt
      with-none (x ∷ xs) each = ((each.0, tt), with-none xs each.1)
  put-differ members row (Some place) there differ =
      let same = has-same (name_of row) (get_or members place row) (position-Some (has (name_of row)) members place row there).1 in
      subst NamesDiffer (sym (map-set_same name_of members place row row (sym same))) differ

  fold-differ : (all : List (Declared Item)) (members : List (Member Item)) → NamesDiffer (map name_of members) → NamesDiffer (map name_of (fold (declare kind) members all))
  fold-differ [] members differ = differ
  fold-differ (declared ∷ all) members differ =
      let row = refined_by kind (row_by (member_key kind) members (named (kind.name declared.item))) declared in
      fold-differ all (declare kind members declared) (put-differ members row (place_by (member_key kind) members (named (name_of row))) refl differ)

  -- the members along a chain
  pub members-differ : (classes : List Class) → NamesDiffer (map name_of (members_along kind classes))
  members-differ classes = fold-differ (filter (stands kind (marks_of kind (declarations kind classes))) (declarations kind classes)) [] tt
