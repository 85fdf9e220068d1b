-- What a set of connections knows.
use Rattle.std.specs.Prelude.{◌≡◌, ℕ, Bool, ◌&&◌, nat_eq, List}
use denote.Ref.{Bor}
use Rattle.package_index.specs.inner.Tables.{same_text}
use Rattle.instantiator.specs.Whole.{Instance}
use Rattle.stray_bindings.specs.Stray.{has_wire}

-- the key of a connection
abbrev pub WireKey : Type 0
WireKey = ℕ × Bor (List ℕ)

-- whether two keys are the same
abbrev pub same_wire : WireKey → WireKey → Bool
same_wire a b = nat_eq a.0 b.0 && same_text a.1 b.1

-- The set has the connections of an instance.
abbrev pub KnowsWires : Instance → (WireKey → Bool) → Type 0
KnowsWires instance has = (key : WireKey) → has key ≡ has_wire instance (key.0, key.1.now)
