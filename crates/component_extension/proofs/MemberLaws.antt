-- The refusals of the members of a chain, noted kind after kind.
use Rattle.std.proofs.Common.{ℕ, ◌≡◌, List, [], ◌++◌, flat_map, Contains, MatchOption, ap, ◌∙◌}
use Rattle.plain_values.specs.declared.refusal.Refusal.{Refusal}
use Rattle.plain_values.specs.Order.{IsFirst}
use Rattle.noted_refusals.specs.inner.Noted.{Lists, Noted, nothing_noted, noting}
use Rattle.noted_refusals.proofs.Laws.{noted-all, noted-lists, noted-more}
use Rattle.component_extension.specs.Members.{Class, Declared, Kind, Mark, Member, all_marks, connection_limits, connections, declarations, duplicates, refusals_of, feature_limits, features, marks_along, marks_of, member_refusals, members_along, members_of, subcomponent_limits, subcomponents, unknown_members}

module _ {Item : Type 0} (kind : Kind Item) (classes : List Class) (all : List (Declared Item)) (names : List Mark) (members : List (Member Item)) (all_is : all ≡ declarations kind classes) (names_are : names ≡ marks_of kind all)
    (made : members ≡ members_of kind names all) where
  named : names ≡ marks_along kind classes
  named = names_are ∙ ap (marks_of kind) all_is

  pub members-are : members ≡ members_along kind classes
  members-are = made ∙ (λ i. members_of kind (named i) (all_is i))

  pub kind-noted : (limits : Member Item → List Refusal) (first next last : Noted) → next ≡ noting first (unknown_members kind names all) → last ≡ noting next (flat_map limits members) → last ≡ noting first (refusals_of kind limits classes)
  kind-noted limits first next last unknown limited =
      limited ∙ noted-more first next (unknown_members kind names all) (flat_map limits members) unknown
      ∙ (λ i. noting first (unknown_members kind (named i) (all_is i) ++ flat_map limits (members-are i)))

-- the whole group, noted kind after kind, with the names of all kinds
module _ (classes : List Class) (room : ℕ) (none f g h last : Noted) (start m n names : List Mark) (clear : none ≡ nothing_noted room) (one : f ≡ noting none (refusals_of features feature_limits classes))
    (two : g ≡ noting f (refusals_of subcomponents subcomponent_limits classes)) (three : h ≡ noting g (refusals_of connections connection_limits classes)) (four : last ≡ noting h (duplicates names names)) (empty : start ≡ [])
    (marks_m : m ≡ start ++ marks_along features classes) (marks_n : n ≡ m ++ marks_along subcomponents classes) (marks_all : names ≡ n ++ marks_along connections classes) where
  all-refusals : last ≡ noting (nothing_noted room) (member_refusals classes)
  all-refusals =
      let a = refusals_of features feature_limits classes in
      let b = refusals_of subcomponents subcomponent_limits classes in
      let c = refusals_of connections connection_limits classes in
      let d = duplicates (all_marks classes) (all_marks classes) in
      let names_are : names ≡ all_marks classes =
      marks_all
      ∙ ap (λ front. front ++ marks_along connections classes) (marks_n ∙ ap (λ front. front ++ marks_along subcomponents classes) (marks_m ∙ ap (λ front. front ++ marks_along features classes) empty)) in
      four ∙ ap (λ all. noting h (duplicates all all)) names_are ∙ noted-more g h c d three ∙ noted-more f g b (c ++ d) two ∙ noted-more none f a (b ++ (c ++ d)) one
      ∙ ap (λ before. noting before (member_refusals classes)) clear

  -- the first of them
  pub all-noted : MatchOption last.first (member_refusals classes ≡ []) (IsFirst (Contains (member_refusals classes)))
  all-noted = noted-all room last (member_refusals classes) all-refusals

  -- and all of them
  pub all-listed : Lists (member_refusals classes) last
  all-listed = noted-lists room last (member_refusals classes) all-refusals
