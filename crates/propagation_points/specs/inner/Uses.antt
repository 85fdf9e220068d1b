-- Beside specs/Uses.antt: what no clause of `run` reaches.
use Rattle.std.specs.Prelude.{ℕ, List, filter}
use Rattle.propagation_points.specs.declared.side.Reach.{Reach}
use Rattle.propagation_points.specs.declared.side.Side.{Side}
use Rattle.propagation_points.specs.Uses.{side_types, covers}

-- ---- types of a side

-- The types of a side that a reach covers. Types outside the universe select nothing at a free side.
abbrev pub reached_types : List ℕ → Side → Reach → List ℕ
reached_types universe side reach = filter (covers reach) (side_types universe side)
