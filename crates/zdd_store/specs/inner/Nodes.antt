-- The nodes of a store, and the families that they make.
use Rattle.std.specs.Prelude.{ℕ, ◌+◌, ◌<◌, ◌≡◌, List, [], ◌∷◌, ◌++◌, length, fold, slice_get, Some}
use Rattle.zdd_store.specs.inner.Store.{Families, family_at, family_with, no_nodes, Fits, IsSound}
use Rattle.zdd_store.specs.inner.Answers.{HasShape}
use Rattle.zdd_store.specs.declared.id.Node.{Node}
use Rattle.zdd_store.specs.declared.shapes.Shape.{Shape}

-- the families with that of one more node
unfoldable pub with_node : Families → Node → Families
with_node store node = store ++ family_with store node ∷ []

-- the families of the numbers: no node has EMPTY and UNIT, and each node adds its own
unfoldable pub families : List Node → Families
families nodes = fold with_node no_nodes nodes

-- the node at a place fits the store, and its number stands for its family
pub record IsNodeAt (nodes : List Node) (place : ℕ) (node : Node) : Type 0 where
  pub fits : Fits (families nodes) node
  pub family : family_at (families nodes) (place + 2) ≡ family_with (families nodes) node

-- the nodes of a store: each fits, and their families are those of a store
pub record IsStore (nodes : List Node) : Type 0 where
  pub few : length nodes < 4294967293
  pub each : (place : ℕ) (node : Node) → slice_get nodes place ≡ Some node → IsNodeAt nodes place node
  pub sound : IsSound (families nodes)

-- what is known at a place is so of the family of the node there
pub record HasShapeAt (store : Families) (place : ℕ) (shape : Shape) : Type 0 where
  pub inside : place + 2 < length store
  pub of_node : HasShape (family_at store (place + 2)) shape

-- what is known of the families of the nodes, from the first node on, as far as it is noted
abbrev pub AreShapes : Families → List Shape → Type 0
AreShapes store table = (place : ℕ) (shape : Shape) → slice_get table place ≡ Some shape → HasShapeAt store place shape
