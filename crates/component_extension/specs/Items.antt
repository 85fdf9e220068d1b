-- The error model items of a classifier (EMV2: subclauses along `extends`).
use Rattle.std.specs.Prelude.{ℕ, List, [], ◌∷◌, ◌++◌, map, flat_map, fold, reverse, Option, Some, None, option_map, option_to_list, Result, Ok, Err}
use Rattle.aadl_syntax.specs.declared.core_model.Binding.{Binding}
use Rattle.aadl_syntax.specs.declared.core_model.Decl.{Decl}
use Rattle.aadl_syntax.specs.declared.core_model.PackageUnit.{PackageUnit}
use Rattle.aadl_syntax.specs.declared.error_model.Emv2Clause.{Emv2Clause}
use Rattle.aadl_syntax.specs.declared.error_model.PointItem.{PointItem}
use Rattle.aadl_syntax.specs.declared.place.Ref.{Ref}
use Rattle.plain_values.specs.declared.spot.Spot.{Spot}
use Rattle.plain_values.specs.declared.refusal.Refusal.{Refusal}
use Rattle.bindings.specs.Bindings.{bindings_in, braced_bindings}
use Rattle.package_index.specs.declared.id.ClassifierId.{ClassifierId}
use Rattle.package_index.specs.Lookup.{decl_of}
use Rattle.plain_values.specs.Numbered.{numbered_from}
use Rattle.component_extension.specs.Chain.{chain_of}
use Rattle.component_extension.specs.Members.{Class, InPackage, member_refusals}
use Rattle.component_extension.specs.Rows.{Key, named, put}

-- ---- the classifiers and their clauses

-- the classifier of a number in the index
abbrev pub class_of : List PackageUnit → ClassifierId → List Class
class_of packages id = option_to_list (option_map (λ decl. record { «package» = id.«package»; item = decl }) (decl_of packages id))

-- the classifiers of a chain, the farthest first
abbrev pub classes_of : List PackageUnit → List ClassifierId → List Class
classes_of packages chain = flat_map (class_of packages) (reverse chain)

-- A clause: its package, and its text with its own `use types`. The names of its items are read there.
abbrev pub Clause : Type 0
Clause = InPackage Emv2Clause

-- the clauses of a classifier
abbrev pub clauses_in : Class → List Clause
clauses_in class = map (λ clause. record { «package» = class.«package»; item = clause }) class.item.clauses

-- The clauses of a chain, from the farthest classifier to the nearest, each in the order of its text.
abbrev pub clauses_of : List Class → List Clause
clauses_of classes = flat_map clauses_in classes

-- ---- items

-- An item, and the number of its clause.
pub record Scoped (Item : Type 0) : Type 0 where
  pub scope : ℕ
  pub item : Item

-- the items of a clause of this number
abbrev pub scoped_by : {Item : Type 0} → (Emv2Clause → List Item) → ℕ → Clause → List (Scoped Item)
scoped_by items scope clause = map (λ item. record { scope = scope; item = item }) (items clause.item)

-- The items of a kind in these clauses: a later item takes the place of the earlier one of its key, and an item without
-- a key goes last.
abbrev pub gathered : {Item : Type 0} → (Emv2Clause → List Item) → (Item → Option Key) → List Clause → List (Scoped Item)
gathered items key clauses = fold (put (λ scoped. key scoped.item)) [] (numbered_from (scoped_by items) 0 clauses)

-- the key of a name, if there is one
abbrev pub perhaps_named : Option (List ℕ) → Option Key
perhaps_named name = option_map named name

-- the key of a propagation: its point, its direction, and whether it is a `not`
abbrev pub point_key : PointItem → Option Key
point_key item = Some (record { names = item.point.names; outward = item.outward; negative = item.negative })

-- the machine that a clause uses, if it uses one, and else that of the clauses before it
abbrev pub machine_by : ℕ → Clause → List (Scoped Ref)
machine_by scope clause = map (λ name. record { scope = scope; item = name }) (option_to_list clause.item.machine)

-- The machine of the nearest clause that uses one: the last of them.
abbrev pub machine_of : List Clause → Option (Scoped Ref)
machine_of clauses = fold (λ before machine. Some machine) None (numbered_from machine_by 0 clauses)

-- the places of one sort in these clauses
abbrev pub spots_of : (Emv2Clause → List Spot) → List Clause → List Spot
spots_of spots clauses = flat_map (λ clause. spots clause.item) clauses

-- ---- bindings

-- The bindings of a chain, from the farthest classifier to the nearest, each in the order of its text.
abbrev pub bindings_along : List Class → List Binding
bindings_along classes = flat_map (λ class. flat_map (bindings_in class.item.spot.file) class.item.properties) classes

-- the bindings that stand in braces behind the members of a declaration: its subcomponents, and then its connections
abbrev pub braced_in : Decl → List Binding
braced_in decl =
    flat_map (λ subcomponent. braced_bindings subcomponent.spot.file subcomponent.name subcomponent.tail) decl.subcomponents
    ++ flat_map (λ connection. braced_bindings connection.spot.file connection.name connection.tail) decl.connections

-- The bindings that stand in braces behind the members of a chain, from the farthest classifier to the nearest: those of a refinement stand
-- behind those of what it refines.
abbrev pub braced_along : List Class → List Binding
braced_along classes = flat_map (λ class. braced_in class.item) classes

-- ---- refusals

-- the refusals of a chain, or those of its members
abbrev pub refusals_along : List PackageUnit → Result (List ClassifierId) Refusal → List Refusal
refusals_along packages (Err refusal) = refusal ∷ []
refusals_along packages (Ok chain) = member_refusals (classes_of packages chain)

-- The refusals of a classifier of an index: the first fault of its chain, or else all those of its members.
abbrev pub classifier_refusals : List PackageUnit → ClassifierId → List Refusal
classifier_refusals packages id = refusals_along packages (chain_of packages id)
