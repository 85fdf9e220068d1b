-- Sides from which links lead to two sides of one component (EMV2: connections of one output to two inputs of a part).
use Rattle.std.specs.Prelude.{ℕ, Bool, cond, ◌&&◌, not, nat_eq, List, [], ◌∷◌, filter, take}
use Rattle.std.specs.List.{list_any}
use Rattle.plain_values.specs.Numbered.{numbered_from}
use Rattle.propagation_links.specs.declared.link.Link.{Link}
use Rattle.model_facts.specs.Facts.{same_side}

-- whether two links lead from one side to one component
abbrev pub same_way : Link → Link → Bool
same_way a b = same_side a.from b.from && nat_eq a.to.component b.to.component

-- whether two links lead from one side to one side
abbrev pub same_link : Link → Link → Bool
same_link a b = same_side a.from b.from && same_side a.to b.to

-- Whether a link is a further way: one of those before it leads from the same side to the same component, and none to the same side of it.
abbrev pub is_further_way : List Link → Link → Bool
is_further_way before link = list_any (λ other. same_way other link) before && not (list_any (λ other. same_link other link) before)

-- the link of a place among links, if it is a further way
abbrev pub further_way : List Link → ℕ → Link → List Link
further_way links place link = cond (is_further_way (take place links) link) (link ∷ []) []

-- the links among these that are further ways, in order
abbrev pub further_ways : List Link → List Link
further_ways links = numbered_from (further_way links) 0 links

-- the links that lead to inward sides
abbrev pub inward_links : List Link → List Link
inward_links links = filter (λ link. not link.to.outward) links

-- Of the links that lead to inward sides those by which a side leads to a second side of one component, or to a third.
abbrev pub two_ways : List Link → List Link
two_ways links = further_ways (inward_links links)
