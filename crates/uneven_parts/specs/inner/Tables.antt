-- What sets and rows know: of links, of facts, and of what facts have in common.
use Rattle.std.specs.Prelude.{◌≡◌, ℕ, Bool, ◌&&◌, nat_eq, List, [], Option, unwrap_or}
use Rattle.std.specs.List.{list_any}
use Rattle.propagation_links.specs.declared.link.Link.{Link}
use Rattle.model_facts.specs.inner.Tables.{SideKey, same_side_key}
use Rattle.instantiator.specs.Whole.{Instance}
use Rattle.model_facts.specs.declared.keys.FactKey.{FactKey}
use Rattle.uneven_parts.specs.Quiet.{Given, Giver, same_given, same_giver}
use Rattle.uneven_parts.specs.Unlike.{Likeness, is_own, likeness_at, members}

-- the key of a way: a side, and a component
abbrev pub WayKey : Type 0
WayKey = SideKey × ℕ

abbrev pub same_way_key : WayKey → WayKey → Bool
same_way_key a b = same_side_key a.0 b.0 && nat_eq a.1 b.1

-- the key of a link: its sides
abbrev pub LinkKey : Type 0
LinkKey = SideKey × SideKey

abbrev pub same_link_key : LinkKey → LinkKey → Bool
same_link_key a b = same_side_key a.0 b.0 && same_side_key a.1 b.1

-- The key of the way of a link.
abbrev pub way_key : Link → WayKey
way_key link = ((link.from.component, link.from.point, link.from.outward), link.to.component)

-- The key of a link.
abbrev pub link_key : Link → LinkKey
link_key link = ((link.from.component, link.from.point, link.from.outward), (link.to.component, link.to.point, link.to.outward))

-- The set has the ways of these links, and no other.
abbrev pub KnowsWays : List Link → (WayKey → Bool) → Type 0
KnowsWays links has = (key : WayKey) → has key ≡ list_any (λ link. same_way_key (way_key link) key) links

-- The set has these links, and no other.
abbrev pub KnowsLinks : List Link → (LinkKey → Bool) → Type 0
KnowsLinks links has = (key : LinkKey) → has key ≡ list_any (λ link. same_link_key (link_key link) key) links

-- the row of a key, where there is one
abbrev pub row_at : Option (List ℕ) → List ℕ
row_at row = unwrap_or row []

-- The rows have the facts that have something in common.
abbrev pub KnowsMembers : Instance → List FactKey → (Likeness → Option (List ℕ)) → Type 0
KnowsMembers instance facts rows = (one : Likeness) → row_at (rows one) ≡ members instance facts one

-- The set has what these facts have in common with others.
abbrev pub KnowsLikenesses : Instance → List FactKey → List ℕ → (Likeness → Bool) → Type 0
KnowsLikenesses instance facts numbers has = (one : Likeness) → has one ≡ list_any (λ number. is_own (likeness_at instance facts number) one) numbers

-- The set has these numbers.
abbrev pub KnowsNumbers : List ℕ → (ℕ → Bool) → Type 0
KnowsNumbers numbers has = (number : ℕ) → has number ≡ list_any (λ place. nat_eq place number) numbers

-- The set has all that is given.
abbrev pub KnowsGiven : List Given → (Given → Bool) → Type 0
KnowsGiven all has = (key : Given) → has key ≡ list_any (λ one. same_given one key) all

-- The set has all that give something.
abbrev pub KnowsGivers : List Given → (Giver → Bool) → Type 0
KnowsGivers all has = (key : Giver) → has key ≡ list_any (λ one. same_giver (one.0, one.2) key) all
