-- What the name of an error type means where it stands.
use Rattle.std.specs.Prelude.{ℕ, zero, suc, ◌^◌, Bool, cond, nat_eq, List, [], ◌∷◌, ◌++◌, fold, position, slice_get, Option, Some, None, option_map, option_and_then}
use Rattle.std.specs.List.{list_any}
use Rattle.plain_values.specs.Order.{nearer}
use Rattle.aadl_syntax.specs.declared.place.Ref.{Ref}
use Rattle.plain_values.specs.declared.spot.Spot.{Spot}
use Rattle.plain_values.specs.declared.refusal.Code.TheVariants.{CyclicType, UnknownPackage, UnknownType}
use Rattle.plain_values.specs.declared.refusal.Refusal.{Refusal}
use Rattle.package_index.specs.Lookup.{look_package}
use Rattle.plain_values.specs.Refusal.{place_of, refusal}
use Rattle.package_index.specs.Names.{front, last}
use Rattle.error_libraries.specs.declared.id.ItemId.{ItemId}
use Rattle.error_libraries.specs.declared.id.Looked.{Looked}
use Rattle.error_libraries.specs.declared.id.Looked.TheVariants.{Found, Nowhere, Circular}
use Rattle.error_libraries.specs.declared.scope.Scope.{Scope}
use Rattle.error_libraries.specs.Libraries.{Library, Table, has_item_name, of_library}

-- ---- in a library

-- A search so far: what it found, the libraries that it searched in vain, and the first refusal of the names of libraries that
-- it met.
pub record Search : Type 0 where
  pub found : Looked
  pub vain : List ℕ
  pub first : Option Refusal

-- whether a number is one of these
abbrev pub is_number_in : List ℕ → ℕ → Bool
is_number_in numbers number = list_any (λ other. nat_eq other number) numbers

-- the item of a place in a library, or none
abbrev pub found_at : ℕ → Option ℕ → Looked
found_at number None = Nowhere
found_at number (Some place) = Found (record { «package» = number; item = place })

-- the first item of a library's own that has the name
abbrev pub own_item : List Library → List ℕ → ℕ → Looked
own_item libraries name number = found_at number (option_and_then (λ library. position (has_item_name name) library.items) (slice_get libraries number))

-- the libraries that a library extends
abbrev pub extended : List Library → ℕ → List ℕ
extended libraries number = of_library (λ library. library.extends) (slice_get libraries number)

-- the first refusal of the names of libraries that a library uses and extends
abbrev pub unknown_in : List Library → ℕ → Option Refusal
unknown_in libraries number = option_and_then (λ library. library.unknown) (slice_get libraries number)

-- the search once it is at a library: the library's own item is found, and its names of libraries are looked up
abbrev pub at_library : List Library → List ℕ → Search → ℕ → Search
at_library libraries name search number =
    record { found = own_item libraries name number; vain = search.vain; first = nearer search.first (unknown_in libraries number) }

-- what follows, unless the search has its end
abbrev pub unless_ended : Looked → Search → Search → Search
unless_ended Nowhere search rest = rest
unless_ended (Found id) search rest = search
unless_ended Circular search rest = search

-- the search once a library and those that it extends were searched
abbrev pub past : ℕ → Search → Search
past number search = unless_ended search.found search (record { found = Nowhere; vain = search.vain ++ number ∷ []; first = search.first })

-- the search that came back to a library on its way
abbrev pub turned : Search → Search
turned search = record { found = Circular; vain = search.vain; first = search.first }

-- The search for a name goes on to a library, in at most so many steps: the library's own item of that name, or else that of
-- the libraries that it extends, in order. `way` are the libraries that are being searched, and a library that was searched
-- in vain is passed by.
unfoldable pub searched : ℕ → List Library → List ℕ → List ℕ → Search → ℕ → Search
searched zero libraries name way search number = search
searched (suc steps) libraries name way search number =
    unless_ended search.found search
    (cond (is_number_in search.vain number) search
    (cond (is_number_in way number) (turned search)
    (past number (fold (searched steps libraries name (number ∷ way)) (at_library libraries name search number) (extended libraries number)))))

-- nothing is searched yet
abbrev pub no_search : Search
no_search = record { found = Nowhere; vain = []; first = None }

-- The search for a name in a library. No index has as many as 2^64 libraries, so it always comes to its end.
abbrev pub search : List Library → List ℕ → ℕ → Search
search libraries name number = searched (2 ^ 64) libraries name [] no_search number

-- ---- in a text

-- What a search found, and the first refusal that it met.
pub record Hit : Type 0 where
  pub found : Looked
  pub first : Option Refusal

-- the hit of a search, or else that of a later one
abbrev pub or_hit : Looked → Option Refusal → Hit → Hit
or_hit Nowhere first later = record { found = later.found; first = nearer first later.first }
or_hit (Found id) first later = record { found = Found id; first = first }
or_hit Circular first later = record { found = Circular; first = first }

-- the search for a name in libraries, one after the other, up to the first in which it has its end
abbrev pub search_along : List Library → List ℕ → List ℕ → Hit
search_along libraries name [] = record { found = Nowhere; first = None }
search_along libraries name (number ∷ numbers) = or_hit (search libraries name number).found (search libraries name number).first (search_along libraries name numbers)

-- What a name means: an item, or nothing; and the first refusal of its look-up.
pub record Named : Type 0 where
  pub target : Option ItemId
  pub first : Option Refusal

-- the item that was found
abbrev pub item_found : Looked → Option ItemId
item_found (Found id) = Some id
item_found Nowhere = None
item_found Circular = None

-- N7 where a name is found nowhere, N8 where its search is circular, both at the name
abbrev pub name_fault : Spot → Looked → Option Refusal
name_fault spot (Found id) = None
name_fault spot Nowhere = Some (refusal UnknownType (place_of spot))
name_fault spot Circular = Some (refusal CyclicType (place_of spot))

-- the libraries in which a name is searched: those of the text for a bare name, or else that of the package before it
abbrev pub libraries_for : Table → Scope → List (List ℕ) → Option (List ℕ)
libraries_for table scope [] = Some scope.libraries
libraries_for table scope (name ∷ names) = option_map (λ number. number ∷ []) (look_package table.packages (Some scope.«package») (name ∷ names))

-- the name, or an empty one
abbrev pub or_empty : Option (List ℕ) → List ℕ
or_empty None = []
or_empty (Some name) = name

-- the last of names
abbrev pub last_name : List (List ℕ) → List ℕ
last_name names = or_empty (last names)

-- what a name means by its search
abbrev pub named_by : Spot → Hit → Named
named_by spot hit = record { target = item_found hit.found; first = nearer hit.first (name_fault spot hit.found) }

-- what a reference means in such libraries; N2 at it where its package is not found
abbrev pub named_in : Table → Ref → Option (List ℕ) → Named
named_in table reference None = record { target = None; first = Some (refusal UnknownPackage (place_of reference.spot)) }
named_in table reference (Some numbers) = named_by reference.spot (search_along table.libraries (last_name reference.names) numbers)

-- What a reference to an error type or a type set means in a text.
abbrev pub named : Table → Scope → Ref → Named
named table scope reference = named_in table reference (libraries_for table scope (front reference.names))
