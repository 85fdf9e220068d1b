-- Small examples of the definitions, each proved by computing it.
use Rattle.std.proofs.Common.{◌≡◌, true, false, List, [], ◌∷◌, codes, Some, None, refl}
use Rattle.aadl_syntax.specs.declared.error_model.TypeItem.{TypeItem}
use Rattle.aadl_syntax.specs.declared.error_model.TypeKind.TheVariants.{Alias, Plain, Set}
use Rattle.plain_values.specs.declared.refusal.Code.TheVariants.{CyclicType, UnknownType}
use Rattle.plain_values.specs.Refusal.{place_of, refusal}
use Rattle.error_libraries.specs.declared.scope.Scope.{Scope}
use Rattle.profiles.specs.declared.profile.Profile.TheVariants.{First}
use Rattle.error_libraries.specs.Libraries.{Table, table_of}
use Rattle.error_libraries.specs.Search.{searched}
use Rattle.error_types.specs.Types.{denoted, is_below, is_below_in, text_scope, type_named}
use Rattle.error_types.specs.Walk.{follow, set_first}
use Rattle.error_libraries.proofs.Sample.{library_with, name_at, no_error_at, packages, set_at, spot, table, type_item}

-- ---- the types of a library

-- where the second package looks for a bare name, if it uses the types of the first
abbrev text : Scope
text = text_scope packages 1 (name_at 0 (codes "l" ∷ []) ∷ [])

of_a_type : denoted table text (set_at 9 (codes "serviceerror" ∷ [])) ≡ 0 ∷ 1 ∷ 2 ∷ []
unfolding searched follow type_named is_below_in
of_a_type = refl

-- a type that extends another denotes itself and what is below it, and not what it extends
of_a_lower_type : denoted table text (set_at 9 (codes "omission" ∷ [])) ≡ 1 ∷ 2 ∷ []
unfolding searched follow type_named is_below_in
of_a_lower_type = refl

of_an_alias : denoted table text (set_at 9 (codes "lost" ∷ codes "badvalue" ∷ [])) ≡ 2 ∷ 3 ∷ []
unfolding searched follow type_named is_below_in
of_an_alias = refl

of_no_error : denoted table text (no_error_at 9) ≡ []
unfolding searched follow type_named is_below_in
of_no_error = refl

below : is_below table 2 0 ≡ true
unfolding searched type_named is_below_in
below = refl

above : is_below table 0 2 ≡ false
unfolding searched type_named is_below_in
above = refl

apart : is_below table 2 3 ≡ false
unfolding searched type_named is_below_in
apart = refl

no_type : is_below table 9 0 ≡ false
no_type = refl

-- ---- names that are refused

-- N7 at a name that no library has
unknown : set_first table text (set_at 9 (codes "nothing" ∷ [])) ≡ Some (refusal UnknownType (place_of (spot 9)))
unfolding searched follow
unknown = refl

abbrev in_library : Scope
in_library = record { «package» = 0; libraries = 0 ∷ [] }

abbrev table_with : List TypeItem → Table
table_with items = table_of First (library_with (codes "l") items ∷ [])

-- types that extend each other: N8 at the name that leads back
abbrev circle : List TypeItem
circle = type_item (codes "a") (Plain (Some (name_at 1 (codes "b" ∷ [])))) ∷ type_item (codes "b") (Plain (Some (name_at 2 (codes "a" ∷ [])))) ∷ []

circular : set_first (table_with circle) in_library (set_at 9 (codes "a" ∷ [])) ≡ Some (refusal CyclicType (place_of (spot 2)))
unfolding searched follow
circular = refl

-- sets in sets: what was followed to its end is not entered again, so N8 stands once
abbrev sets : List TypeItem
sets =
    type_item (codes "a") (Set (set_at 1 (codes "b" ∷ codes "c" ∷ []))) ∷ type_item (codes "b") (Set (set_at 2 (codes "c" ∷ [])))
    ∷ type_item (codes "c") (Set (set_at 3 (codes "b" ∷ []))) ∷ []

circular_sets : set_first (table_with sets) in_library (set_at 9 (codes "a" ∷ [])) ≡ Some (refusal CyclicType (place_of (spot 3)))
unfolding searched follow
circular_sets = refl

-- an alias that is followed under `extends` is followed again where a set names it
abbrev twice : List TypeItem
twice =
    type_item (codes "s") (Set (set_at 1 (codes "t" ∷ codes "al" ∷ []))) ∷ type_item (codes "t") (Plain (Some (name_at 2 (codes "al" ∷ []))))
    ∷ type_item (codes "al") (Alias (name_at 3 (codes "u" ∷ []))) ∷ type_item (codes "u") (Plain None) ∷ []

named_twice : denoted (table_with twice) in_library (set_at 9 (codes "s" ∷ [])) ≡ 0 ∷ 1 ∷ []
unfolding searched follow type_named is_below_in
named_twice = refl

-- N7 at a name that must be a type and is a set
abbrev no_base : List TypeItem
no_base = type_item (codes "t") (Plain (Some (name_at 1 (codes "s" ∷ [])))) ∷ type_item (codes "s") (Set (set_at 2 (codes "t" ∷ []))) ∷ []

set_for_type : set_first (table_with no_base) in_library (set_at 9 (codes "t" ∷ [])) ≡ Some (refusal UnknownType (place_of (spot 1)))
unfolding searched follow
set_for_type = refl
