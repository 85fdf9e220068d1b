-- What an insert of a node makes of a store.
use Rattle.std.proofs.Common.{◌≡◌, ℕ, ◌+◌, ◌-◌, ◌<◌, ◌≤◌, ◌↔◌, Bool, true, if◌then◌else◌, List, [], ◌∷◌, ◌++◌, length, get_or, slice_get, Option, Some, None, IsSome, IfSome, refl, sym, ap, ◌∙◌, subst, arith}
use Rattle.std.proofs.lemmas.Option.{slice_get_within, slice_get-get_or}
use Rattle.std.specs.List.{list_any}
use Rattle.zdd_store.specs.inner.Store.{Families, family_at, family_with, Keeps, Fits}
use Rattle.zdd_store.specs.inner.Nodes.{families, AreShapes, IsNodeAt, IsStore}
use Rattle.zdd_store.specs.inner.Answers.{AreRight, KnowsRight}
use Rattle.zdd_store.specs.declared.id.Node.{Node}
use Rattle.zdd_store.specs.declared.question.Known.{Known}
use Rattle.zdd_store.specs.declared.question.Question.{Question}
use Rattle.zdd_store.specs.declared.shapes.Shape.{Shape}
use Rattle.zdd_store.proofs.Growing.{Inserted, inserted, AreRight-kept, KnowsRight-kept, family_with-kept, length-families}
use Rattle.zdd_store.proofs.Shaped.{AreShapes-kept}

-- the store after an insert: its nodes, what is known of them, its answers, and what each number keeps
pub record Made (store : Families) (shapes : List Shape) (known : List Known) (kept_answers : Question → Option ℕ) (node : Node) (after : List Node) (index : ℕ) : Type 0 where
  pub nodes : IsStore after
  pub shaped : AreShapes (families after) shapes
  pub answers : AreRight (families after) known
  pub kept_right : KnowsRight (families after) kept_answers
  pub kept : Keeps store (families after)
  pub found : index + 2 < length (families after)
  pub own : family_at (families after) (index + 2) ≡ family_with (families after) node
  pub family : family_at (families after) (index + 2) ≡ family_with store node

pub made : (eq : Node → Node → Bool) → ((a : Node) → eq a a ≡ true) → ((a b : Node) → eq a b ≡ true → a ≡ b)
    → (before after : List Node) (store : Families) (shapes : List Shape) (known : List Known) (kept_answers : Question → Option ℕ) (node : Node) (index : ℕ)
    → families before ≡ store → IsStore before → AreShapes (families before) shapes → AreRight (families before) known → KnowsRight (families before) kept_answers → length before < 4294967292 → Fits store node
    → after ≡ (if list_any (eq node) before then before else before ++ node ∷ [])
    → (k : Node) → slice_get after index ≡ Some k → eq node k ≡ true → Made store shapes known kept_answers node after index
made eq same exact before after store shapes known kept_answers node index view nodes shaped answers kept_right room fits keys k here equal =
    let P : Families → Type 0 = λ f. Fits f node in
    let fit : Fits (families before) node = subst P (sym view) fits in
    let grown : Inserted before after = subst (Inserted before) (sym keys) (inserted eq same before node nodes room fit) in
    let K : Families → Type 0 = λ f. Keeps f (families after) in
    let is : node ≡ k = exact node k equal in
    let at : IsNodeAt after index node = grown.store.each index node (here ∙ ap Some (sym is)) in
    let within : index < length after = slice_get_within after index k here in
    let many : length (families after) ≡ length after + 2 = length-families after in
    record {
      nodes = grown.store;
      shaped = AreShapes-kept (families before) (families after) shapes grown.kept shaped;
      answers = AreRight-kept (families before) (families after) known grown.kept answers;
      kept_right = KnowsRight-kept (families before) (families after) kept_answers grown.kept kept_right;
      kept = subst K view grown.kept;
      found = omega arith;
      own = at.family;
      family = at.family ∙ family_with-kept (families before) (families after) node grown.kept fit ∙ ap (λ f. family_with f node) view;
    }

-- what a look-up gives: the node at the place of the number
pub record Looked (store : Families) (position : ℕ) (found : Option Node) : Type 0 where
  pub there : IsSome found ↔ ((position < length store) × (1 < position))
  pub fits : IfSome found (Fits store)
  pub family : IfSome found (λ node. family_at store position ≡ family_with store node)

pub looked : (nodes : List Node) (store : Families) (position : ℕ) (found : Option Node) → families nodes ≡ store → IsStore nodes → 2 ≤ position → found ≡ slice_get nodes (position - 2) → Looked store position found
looked nodes store position None view is h e =
    record {
      there = (
        (λ (some : IsSome {T = Node} None). cc),
        λ here.
            let many : length (families nodes) ≡ length nodes + 2 = length-families nodes in
            let same : length (families nodes) ≡ length store = ap length view in
            let within : position < length store = here.0 in
            let some : slice_get nodes (position - 2) ≡ Some (get_or nodes (position - 2) nothing) = slice_get-get_or nodes (position - 2) nothing (omega arith) in
            cc,
      );
      fits = tt;
      family = tt;
    }
  where
    nothing : Node
    nothing = record { var = 0; lo = record { position = 0 }; hi = record { position = 0 } }
looked nodes store position (Some node) view is h e =
    let at : IsNodeAt nodes (position - 2) node = is.each (position - 2) node (sym e) in
    let within : position - 2 < length nodes = slice_get_within nodes (position - 2) node (sym e) in
    let many : length (families nodes) ≡ length nodes + 2 = length-families nodes in
    let same : length (families nodes) ≡ length store = ap length view in
    let place : position - 2 + 2 ≡ position = omega arith in
    let F : Families → Type 0 = λ f. Fits f node in
    let E : Families → Type 0 = λ f. family_at f position ≡ family_with f node in
    record {
      there = ((λ some. (omega arith, omega arith)), λ here. refl);
      fits = subst F view at.fits;
      family = subst E view (sym (ap (family_at (families nodes)) place) ∙ at.family);
    }
