-- The chain of a classifier: the classifiers from which it has its parts (AS5506: types, implementations, `extends`).
use Rattle.std.specs.Prelude.{ℕ, zero, suc, ◌^◌, Bool, true, false, ◌&&◌, not, nat_eq, List, [], ◌∷◌, ◌++◌, Option, Some, None, is_some, slice_get, Result, Ok, Err}
use Rattle.std.specs.Bool.{beq}
use Rattle.std.specs.List.{list_any}
use Rattle.aadl_syntax.specs.declared.core_model.Decl.{Decl}
use Rattle.aadl_syntax.specs.declared.core_model.PackageUnit.{PackageUnit}
use Rattle.aadl_syntax.specs.declared.place.Ref.{Ref}
use Rattle.plain_values.specs.declared.spot.Spot.{Spot}
use Rattle.plain_values.specs.declared.refusal.Code.{Code}
use Rattle.plain_values.specs.declared.refusal.Code.TheVariants.{UnknownClassifier, CyclicExtends, Prototype}
use Rattle.plain_values.specs.declared.refusal.Refusal.{Refusal}
use Rattle.package_index.specs.declared.id.ClassifierId.{ClassifierId}
use Rattle.package_index.specs.Lookup.{decl_of, look_classifier, refused_at}
use Rattle.plain_values.specs.Refusal.{place_of, refusal}

-- ---- tests, one after the other

-- what follows, unless this refuses
abbrev pub then_so : {A B : Type 0} → Result A Refusal → (A → Result B Refusal) → Result B Refusal
then_so (Err refusal) rest = Err refusal
then_so (Ok value) rest = rest value

-- the rest, unless there is such a fault at this name
abbrev pub refused_if : {A : Type 0} → Bool → Code → Spot → Result A Refusal → Result A Refusal
refused_if true code spot rest = Err (refusal code (place_of spot))
refused_if false code spot rest = rest

-- the rest, unless there is something at this place that is not supported
abbrev pub refused_where : {A : Type 0} → Option Spot → Code → Result A Refusal → Result A Refusal
refused_where (Some spot) code rest = Err (refusal code (place_of spot))
refused_where None code rest = rest

-- ---- the next classifier

-- whether two classifiers are the same
abbrev pub same_id : ClassifierId → ClassifierId → Bool
same_id a b = nat_eq a.«package» b.«package» && nat_eq a.decl b.decl

-- whether a classifier is one of these
abbrev pub is_among : List ClassifierId → ClassifierId → Bool
is_among chain id = list_any (λ other. same_id other id) chain

-- whether a reference names the sort of classifier that this is: implementations have an item, and types have none
abbrev pub is_same_sort : Decl → Ref → Bool
is_same_sort decl reference = beq (is_some decl.item) (is_some reference.item)

-- The tests of an extended classifier that was found: N3 where it is of the other sort, N4 where it stands in the chain
-- already, both at the reference, and P1 at bindings.
abbrev pub tested : List ClassifierId → Decl → Ref → ClassifierId → Result (Option ClassifierId) Refusal
tested chain decl reference base =
    refused_if (not (is_same_sort decl reference)) UnknownClassifier reference.spot
    (refused_if (is_among chain base) CyclicExtends reference.spot (refused_where decl.binds Prototype (Ok (Some base))))

-- The classifier that a declaration extends, if any, where the chain so far ends at the declaration. Its name is looked
-- up in the package of the declaration: N2 or N3 where it means none.
abbrev pub extended : List PackageUnit → List ClassifierId → ClassifierId → Decl → Option Ref → Result (Option ClassifierId) Refusal
extended packages chain id decl None = Ok None
extended packages chain id decl (Some reference) =
    then_so (refused_at (place_of reference.spot) (look_classifier packages (Some id.«package») reference.names reference.item)) (tested chain decl reference)

-- The type of an implementation: what its name before the dot means in its package, N3 at that name where it means none.
abbrev pub type_of : List PackageUnit → ClassifierId → Option Decl → Result (Option ClassifierId) Refusal
type_of packages id None = Ok None
type_of packages id (Some decl) = then_so (refused_at (place_of decl.spot) (look_classifier packages (Some id.«package») (decl.name ∷ []) None)) (λ type. Ok (Some type))

-- the type of the first implementation of a chain
abbrev pub first_type : List PackageUnit → Option ClassifierId → Result (Option ClassifierId) Refusal
first_type packages None = Ok None
first_type packages (Some id) = type_of packages id (decl_of packages id)

-- What comes at the end of a line of implementations: the type of the first of them, whatever the types of those that it
-- extends. Nothing comes at the end of a line of types.
abbrev pub own_type : List PackageUnit → List ClassifierId → Option (List ℕ) → Result (Option ClassifierId) Refusal
own_type packages chain None = Ok None
own_type packages chain (Some item) = first_type packages (slice_get chain 0)

-- the classifier that is extended, or else the type of the first implementation of the chain
abbrev pub onward : List PackageUnit → List ClassifierId → Decl → Option ClassifierId → Result (Option ClassifierId) Refusal
onward packages chain decl (Some base) = Ok (Some base)
onward packages chain decl None = own_type packages chain decl.item

-- The classifier that comes after a declaration in a chain, if any: that which it extends, and at the end of a line of
-- implementations the type of the first. P1 where it has a section of prototypes, after all tests of its `extends`.
abbrev pub next_of : List PackageUnit → List ClassifierId → ClassifierId → Option Decl → Result (Option ClassifierId) Refusal
next_of packages chain id None = Ok None
next_of packages chain id (Some decl) = then_so (extended packages chain id decl decl.extends) (λ base. refused_where decl.prototypes Prototype (onward packages chain decl base))

-- ---- the chain

-- the chain, where nothing comes after it, or else the chain that goes on from there
abbrev pub ends_or : List ClassifierId → (ClassifierId → Result (List ClassifierId) Refusal) → Option ClassifierId → Result (List ClassifierId) Refusal
ends_or chain goes_on None = Ok chain
ends_or chain goes_on (Some next) = goes_on next

-- The chain that is gone so far and goes on with a classifier, in at most so many steps.
unfoldable pub chain_from : ℕ → List PackageUnit → List ClassifierId → ClassifierId → Result (List ClassifierId) Refusal
chain_from zero packages front id = Ok front
chain_from (suc steps) packages front id =
    then_so (next_of packages (front ++ id ∷ []) id (decl_of packages id)) (ends_or (front ++ id ∷ []) (chain_from steps packages (front ++ id ∷ [])))

-- The chain of a classifier, the nearest first: an implementation, those that it extends in turn, then its own type and the
-- types that this extends in turn. It is refused by the first fault from the nearest on. No index has as
-- many as 2^64 classifiers, so it always comes to its end.
abbrev pub chain_of : List PackageUnit → ClassifierId → Result (List ClassifierId) Refusal
chain_of packages id = chain_from (2 ^ 64) packages [] id
