-- The connections and user paths of an instance that give no link, though types are declared for a point that they name.
use Rattle.std.specs.Prelude.{ℕ, Bool, true, false, cond, ◌&&◌, ◌||◌, ◌==◌, not, List, [], ◌∷◌, ◌++◌, length, slice_get, Option, Some, None}
use Rattle.std.specs.Option.{option_map_or}
use Rattle.aadl_syntax.specs.declared.core_model.Connection.{Connection}
use Rattle.aadl_syntax.specs.declared.core_model.Ends.{Ends}
use Rattle.aadl_syntax.specs.declared.error_model.UserPath.{UserPath}
use Rattle.plain_values.specs.Numbered.{numbered_from}
use Rattle.component_extension.specs.declared.effective.Effective.{Effective}
use Rattle.component_extension.specs.Items.{Scoped}
use Rattle.component_extension.specs.Members.{Member}
use Rattle.instantiator.specs.declared.path.Component.{Component}
use Rattle.instantiator.specs.Whole.{Instance, effective_in}
use Rattle.propagation_points.specs.declared.side.Side.{Side}
use Rattle.propagation_points.specs.declared.side.Side.TheVariants.{Absent, Free, Declared}
use Rattle.propagation_points.specs.Points.{Point}
use Rattle.propagation_links.specs.declared.ends.FoundEnd.{FoundEnd}
use Rattle.propagation_links.specs.declared.unlinked.Unlinked.{Unlinked}
use Rattle.propagation_links.specs.Ends.{Pointed, connection_end, is_access, path_end, points_at}
use Rattle.propagation_links.specs.Links.{connection_links, ends_of, link_of}

-- whether types are declared for a side
abbrev pub is_declared : Side → Bool
is_declared Absent = false
is_declared Free = false
is_declared (Declared types) = not (length types == 0)

-- whether types are declared for a side of the point of a component
abbrev pub has_types : Pointed → ℕ → ℕ → Bool
has_types pointed component number = option_map_or (λ point. is_declared point.inward || is_declared point.outward) (slice_get (points_at pointed component) number) false

-- whether types are declared for the point at an end, if one is found
abbrev pub is_declared_at : Pointed → Option FoundEnd → Bool
is_declared_at pointed None = false
is_declared_at pointed (Some end) = has_types pointed end.component end.point

-- whether types are declared for a point at one of two ends
abbrev pub declares_between : Pointed → Option FoundEnd → Option FoundEnd → Bool
declares_between pointed from to = is_declared_at pointed from || is_declared_at pointed to

-- ---- connections

-- whether types are declared for a point at one of the ends of a connection, if it has any
abbrev pub declares : Pointed → ℕ → Bool → Option Ends → Bool
declares pointed number access None = false
declares pointed number access (Some ends) = declares_between pointed (connection_end pointed number access ends.from.names) (connection_end pointed number access ends.to.names)

-- Whether a connection of the component of a number gives no link, though types are declared for a point that it names.
abbrev pub is_unlinked : Pointed → ℕ → Member Connection → Bool
is_unlinked pointed number member =
    (length (connection_links pointed number member) == 0) && declares pointed number (is_access member.nearest.item.kind) (ends_of member)

-- a connection of this place is told, if it is one
abbrev pub told_connection : Pointed → ℕ → ℕ → Member Connection → List Unlinked
told_connection pointed number place member = cond (is_unlinked pointed number member) (record { component = number; is_path = false; number = place } ∷ []) []

-- ---- user paths

-- Whether a user path of the component of a number gives no link, though types are declared for a point that it names.
abbrev pub is_unlinked_path : Pointed → ℕ → UserPath → Bool
is_unlinked_path pointed number path =
    (length (link_of pointed (path_end pointed number path.from.names) (path_end pointed number path.to.names)) == 0)
    && declares_between pointed (path_end pointed number path.from.names) (path_end pointed number path.to.names)

-- a user path of this place is told, if it is one
abbrev pub told_user_path : Pointed → ℕ → ℕ → UserPath → List Unlinked
told_user_path pointed number place path = cond (is_unlinked_path pointed number path) (record { component = number; is_path = true; number = place } ∷ []) []

abbrev pub told_path : Pointed → ℕ → ℕ → Scoped UserPath → List Unlinked
told_path pointed number place scoped = told_user_path pointed number place scoped.item

-- ---- all components

-- those of the component of a number with this effective classifier: its connections, and then its user paths
abbrev pub unlinked_in : Pointed → ℕ → Effective → List Unlinked
unlinked_in pointed number effective =
    numbered_from (told_connection pointed number) 0 effective.members.connections ++ numbered_from (told_path pointed number) 0 effective.propagations.user_paths

-- those of a component
abbrev pub component_unlinked : Pointed → ℕ → Component → List Unlinked
component_unlinked pointed number component = unlinked_in pointed number (effective_in pointed.instance number)

-- those of all components, one component after the other
abbrev pub all_unlinked : Pointed → List Unlinked
all_unlinked pointed = numbered_from (component_unlinked pointed) 0 pointed.instance.components

-- The connections and user paths of an instance with these points that give no link, though types are declared for a point that they
-- name.
abbrev pub unlinked_of : Instance → List (List Point) → List Unlinked
unlinked_of instance points = all_unlinked (record { instance = instance; points = points })
