-- What the tables of facts, events and links know.
use Rattle.std.specs.Prelude.{◌≡◌, ℕ, Bool, ◌&&◌, nat_eq, List}
use Rattle.std.specs.Bool.{beq}
use Rattle.std.specs.List.{list_any}
use Rattle.propagation_links.specs.declared.link.Link.{Link}

-- The key of a side: the number of its component, its point, and whether it is outward.
abbrev pub SideKey : Type 0
SideKey = ℕ × ℕ × Bool

-- whether two such keys are the same
abbrev pub same_side_key : SideKey → SideKey → Bool
same_side_key a b = (nat_eq a.0 b.0 && nat_eq a.1 b.1) && beq a.2 b.2

-- whether a link leads into the side of a key
abbrev pub leads_into : SideKey → Link → Bool
leads_into key link = same_side_key key (link.to.component, link.to.point, link.to.outward)

-- The set has each side into which one of the links leads, and no other.
abbrev pub KnowsSides : List Link → (SideKey → Bool) → Type 0
KnowsSides links sides = (key : SideKey) → sides key ≡ list_any (leads_into key) links
