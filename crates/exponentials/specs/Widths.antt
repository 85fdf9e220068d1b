-- How far apart bounds are.
use Rattle.std.specs.Prelude.{ℕ, ◌+◌, ◌*◌}

-- the places that 1 - e^(-x) has where x, up to 1, has so many
abbrev pub chance_places : ℕ → ℕ
chance_places places = 23 * places + 396

-- and how near its bounds are, where those of x are near by so much
abbrev pub chance_units : ℕ → ℕ
chance_units units = 331 * units + 17166
