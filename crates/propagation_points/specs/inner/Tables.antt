-- What the tables of points know.
use Rattle.std.specs.Prelude.{ℕ, Bool, false, ◌&&◌, List, Option, Some, None, cond}
use Rattle.std.specs.Option.{option_or}
use Rattle.std.specs.Bool.{beq}
use denote.Ref.{Bor}
use Rattle.plain_values.specs.Name.{is_same_text}
use Rattle.aadl_syntax.specs.declared.error_model.PointItem.{PointItem}
use Rattle.package_index.specs.inner.Tables.{Knows, same_text}
use Rattle.component_extension.specs.Items.{Scoped}
use Rattle.error_libraries.specs.declared.scope.Scope.{Scope}
use Rattle.propagation_points.specs.Points.{declares}
use Rattle.propagation_points.specs.inner.Points.{NamesDiffer}

-- The key of a side: its direction, and the name of its point.
abbrev pub SideKey : Type 0
SideKey = Bool × Bor (List ℕ)

-- whether two such keys are the same
abbrev pub same_side : SideKey → SideKey → Bool
same_side a b = beq a.0 b.0 && same_text a.1 b.1

-- whether this side, if it is one, has the key
abbrev pub is_side : Option SideKey → SideKey → Bool
is_side None key = false
is_side (Some own) key = same_side own key

-- whether a propagation declares a set for a side
abbrev pub declares_side : SideKey → Scoped PointItem → Bool
declares_side key scoped = declares key.0 key.1.now scoped

-- The table gives each name the place of the item that has it, and no two items have one name.
abbrev pub KnowsNames : {Item : Type 0} → (Item → List ℕ) → List Item → (Bor (List ℕ) → Option ℕ) → Type 0
KnowsNames {Item} name_of items table = Knows (λ (name : Bor (List ℕ)) (item : Item). is_same_text (name_of item) name.now) items table × NamesDiffer name_of items

-- Propagations, and the texts of the clauses in which they stand.
pub record Propagated : Type 0 where
  pub scopes : List Scope
  pub items : List (Scoped PointItem)

-- the place of a key once a further item has this number: the place that it has, or else that number if it is the item's
abbrev pub or_place : Option ℕ → Bool → ℕ → Option ℕ
or_place before is_it number = option_or before (cond is_it (Some number) None)
