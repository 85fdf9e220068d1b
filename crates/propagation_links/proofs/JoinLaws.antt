-- Each link leads from a side that is there to a side that is there.
use Rattle.std.proofs.Common.{ℕ, ◌+◌, ◌≡◌, Bool, true, false, cond, ◌&&◌, ◌||◌, List, [], ◌∷◌, ◌++◌, flat_map, codes, Option, Some, None, refl, sym, ap}
use Rattle.std.proofs.lemmas.List.{append-nil}
use Rattle.std.specs.List.{AllByRecursion}
use Rattle.aadl_syntax.specs.declared.core_model.BindingKind.{BindingKind}
use Rattle.aadl_syntax.specs.declared.core_model.Connection.{Connection}
use Rattle.aadl_syntax.specs.declared.core_model.Ends.{Ends}
use Rattle.aadl_syntax.specs.declared.error_model.UserPath.{UserPath}
use Rattle.plain_values.specs.Numbered.{numbered_from}
use Rattle.component_extension.specs.declared.effective.Effective.{Effective}
use Rattle.component_extension.specs.Items.{Scoped}
use Rattle.component_extension.specs.Members.{Member}
use Rattle.profiles.specs.declared.profile.Profile.{Profile}
use Rattle.profiles.specs.declared.profile.Profile.TheVariants.{First, Second}
use Rattle.propagation_points.specs.Points.{Point}
use Rattle.instantiator.specs.Components.{component_below}
use Rattle.instantiator.specs.declared.path.Component.{Component}
use Rattle.instantiator.specs.Whole.{Instance, effective_in}
use Rattle.instantiator.proofs.Apart.{each-all, each-append, each-flat_map}
use Rattle.propagation_links.specs.declared.bound.BoundTo.{BoundTo}
use Rattle.propagation_links.specs.declared.ends.FoundEnd.{FoundEnd}
use Rattle.propagation_links.specs.declared.link.Link.{Link}
use Rattle.propagation_links.specs.declared.link.PointAt.{PointAt}
use Rattle.propagation_links.specs.Bound.{all_bounds, all_carried, all_functions, all_held}
use Rattle.propagation_links.specs.Ends.{Pointed, connection_end, is_access, is_there, path_end, point_of}
use Rattle.propagation_links.specs.Links.{all_links, bound_links, bound_word, carried_between, carried_ends, carried_links, carried_one_way, carrier_links, component_links, connected, connection_links, connection_point, ends_of, extra_links, from_side, is_apart, is_left_out, link_between, link_of, links_at_ends, links_both, links_in, links_under, only_second, path_links, stated_links, target_links, to_side}
use Rattle.propagation_links.specs.inner.Links.{AllJoinSides, JoinsSides, OnlyAddsLinks}
use Rattle.propagation_links.specs.Stated.{Carried, Stated}

module _ (pointed : Pointed) where
  abbrev Join : List Link → Type 0
  Join links = AllByRecursion (JoinsSides pointed) links

  join-case : (from to : PointAt) (a b : Bool) → is_there pointed from ≡ a → is_there pointed to ≡ b → Join (cond (a && b) (record { from = from; to = to } ∷ []) [])
  join-case from to true true here there = ((here, there), tt)
  join-case from to true false here there = tt
  join-case from to false b here there = tt

  join-between : (from to : PointAt) → Join (link_between pointed from to)
  join-between from to = join-case from to (is_there pointed from) (is_there pointed to) refl refl

  join-of : (from to : Option FoundEnd) → Join (link_of pointed from to)
  join-of None to = tt
  join-of (Some from) None = tt
  join-of (Some from) (Some to) = join-between (from_side from) (to_side to)

  join-both : (both : Bool) (from to : Option FoundEnd) → Join (links_both pointed both from to)
  join-both true from to = each-append (JoinsSides pointed) (link_of pointed from to) (link_of pointed to from) (join-of from to) (join-of to from)
  join-both false from to = each-append (JoinsSides pointed) (link_of pointed from to) [] (join-of from to) tt

  join-apart : (apart : Bool) (links : List Link) → Join links → Join (cond apart [] links)
  join-apart true links join = tt
  join-apart false links join = join

  join-ends : (number : ℕ) (access : Bool) (ends : Option Ends) → Join (links_at_ends pointed number access ends)
  join-ends number access None = tt
  join-ends number access (Some ends) =
      let from = connection_end pointed number access ends.from.names in
      let to = connection_end pointed number access ends.to.names in
      join-apart (is_apart ends) (links_both pointed (ends.both || access) from to) (join-both (ends.both || access) from to)

  join-in : (number : ℕ) (effective : Effective) → Join (links_in pointed number effective)
  join-in number effective =
      each-append (JoinsSides pointed) (flat_map (connection_links pointed number) effective.members.connections) (flat_map (path_links pointed number) effective.propagations.user_paths)
      (each-flat_map (JoinsSides pointed) (connection_links pointed number) effective.members.connections
      (each-all (λ (member : Member Connection). Join (connection_links pointed number member)) (λ member. join-ends number (is_access member.nearest.item.kind) (ends_of member)) effective.members.connections))
      (each-flat_map (JoinsSides pointed) (path_links pointed number) effective.propagations.user_paths
      (each-all (λ (scoped : Scoped UserPath). Join (path_links pointed number scoped)) (λ scoped. join-of (path_end pointed number scoped.item.from.names) (path_end pointed number scoped.item.to.names)) effective.propagations.user_paths))

  join-numbered : (components : List Component) (number : ℕ) → Join (numbered_from (component_links pointed) number components)
  join-numbered [] number = tt
  join-numbered (component ∷ components) number =
      each-append (JoinsSides pointed) (component_links pointed number component) (numbered_from (component_links pointed) (number + 1) components) (join-in number (effective_in pointed.instance number)) (join-numbered components (number + 1))

  join-target : (itself : Bool) (kind : BindingKind) (number : ℕ) (target : Option ℕ) → Join (target_links pointed itself kind number target)
  join-target itself kind number None = tt
  join-target itself kind number (Some target) =
      let from = point_of pointed false target (codes "bindings") in
      let to = point_of pointed false number (bound_word kind) in
      join-apart (is_left_out itself number target) (links_both pointed true from to) (join-both true from to)

  join-stated : (itself : Bool) (kind : BindingKind) (number : ℕ) (stated : Option Stated) → Join (stated_links pointed itself kind number stated)
  join-stated itself kind number None = tt
  join-stated itself kind number (Some stated) =
      let links : List (List ℕ) → List Link = λ reference. target_links pointed itself kind number (component_below pointed.instance.components stated.component reference) in
      each-flat_map (JoinsSides pointed) links stated.references
      (each-all (λ (reference : List (List ℕ)). Join (links reference)) (λ reference. join-target itself kind number (component_below pointed.instance.components stated.component reference)) stated.references)

  join-bounds : (itself : Bool) (bounds : List BoundTo) → Join (flat_map (bound_links pointed itself) bounds)
  join-bounds itself bounds = each-flat_map (JoinsSides pointed) (bound_links pointed itself) bounds (each-all (λ (bound : BoundTo). Join (bound_links pointed itself bound)) (λ bound. join-stated itself bound.kind bound.component bound.stated) bounds)

  -- ---- connections and what carries them

  join-one-way : (carrier : ℕ) (from to : Option FoundEnd) → Join (carried_one_way pointed carrier from to)
  join-one-way carrier from to =
      let bindings = point_of pointed false carrier (codes "bindings") in
      each-append (JoinsSides pointed) (link_of pointed bindings to) (link_of pointed bindings (connection_point pointed to) ++ link_of pointed from bindings) (join-of bindings to)
      (each-append (JoinsSides pointed) (link_of pointed bindings (connection_point pointed to)) (link_of pointed from bindings) (join-of bindings (connection_point pointed to)) (join-of from bindings))

  join-carrier : (both : Bool) (from to : Option FoundEnd) (carrier : Option ℕ) → Join (carrier_links pointed both from to carrier)
  join-carrier both from to None = tt
  join-carrier true from to (Some carrier) =
      each-append (JoinsSides pointed) (carried_one_way pointed carrier from to) (carried_one_way pointed carrier to from) (join-one-way carrier from to) (join-one-way carrier to from)
  join-carrier false from to (Some carrier) = each-append (JoinsSides pointed) (carried_one_way pointed carrier from to) [] (join-one-way carrier from to) tt

  join-carriers : (stated : Stated) (both : Bool) (from to : Option FoundEnd) → Join (carried_between pointed stated both from to)
  join-carriers stated both from to =
      let links : List (List ℕ) → List Link = λ reference. carrier_links pointed both from to (component_below pointed.instance.components stated.component reference) in
      each-flat_map (JoinsSides pointed) links stated.references
      (each-all (λ (reference : List (List ℕ)). Join (links reference)) (λ reference. join-carrier both from to (component_below pointed.instance.components stated.component reference)) stated.references)

  join-carried-ends : (stated : Stated) (number : ℕ) (access : Bool) (ends : Option Ends) → Join (carried_ends pointed stated number access ends)
  join-carried-ends stated number access None = tt
  join-carried-ends stated number access (Some ends) =
      let from = connection_end pointed number access ends.from.names in
      let to = connection_end pointed number access ends.to.names in
      join-apart (is_apart ends) (carried_between pointed stated (ends.both || access) from to) (join-carriers stated (ends.both || access) from to)

  join-carried : (carried : List Carried) → Join (flat_map (carried_links pointed) carried)
  join-carried carried =
      each-flat_map (JoinsSides pointed) (carried_links pointed) carried
      (each-all (λ (one : Carried). Join (carried_links pointed one)) (λ one. join-carried-ends one.stated one.component (is_access one.connection.nearest.item.kind) (ends_of one.connection)) carried)

  -- ---- all links

  join-all : Join (all_links pointed)
  join-all =
      let bounds = all_bounds pointed.instance in
      each-append (JoinsSides pointed) (connected pointed) (flat_map (bound_links pointed true) bounds) (join-numbered pointed.instance.components 0) (join-bounds true bounds)

  join-extra : Join (extra_links pointed)
  join-extra =
      let held = all_held pointed.instance in
      let functions = all_functions pointed.instance in
      let carried = all_carried pointed.instance in
      each-append (JoinsSides pointed) (flat_map (bound_links pointed false) held) (flat_map (bound_links pointed true) functions ++ flat_map (carried_links pointed) carried) (join-bounds false held)
      (each-append (JoinsSides pointed) (flat_map (bound_links pointed true) functions) (flat_map (carried_links pointed) carried) (join-bounds true functions) (join-carried carried))

  join-second : (profile : Profile) → Join (only_second profile (extra_links pointed))
  join-second First = tt
  join-second Second = join-extra

  join-under : (profile : Profile) → Join (links_under profile pointed)
  join-under profile = each-append (JoinsSides pointed) (all_links pointed) (only_second profile (extra_links pointed)) join-all (join-second profile)

pub all-join : (profile : Profile) (instance : Instance) (points : List (List Point)) → AllJoinSides profile instance points
all-join profile instance points = join-under (record { instance = instance; points = points }) profile

-- the second profile adds links behind those of the first
pub only-adds : (instance : Instance) (points : List (List Point)) → OnlyAddsLinks instance points
only-adds instance points =
    let pointed : Pointed = record { instance = instance; points = points } in
    ap (λ links. links ++ extra_links pointed) (sym (append-nil (all_links pointed)))
