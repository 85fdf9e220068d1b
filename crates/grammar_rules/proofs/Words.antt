-- A word among others.
use Rattle.std.proofs.Common.{◌≡◌, ℕ, List, [], ◌∷◌, ◌||◌, map, bytes_eq, refl, ap, Bor}
use Rattle.std.specs.List.{list_any}

pub among_map : (text : List ℕ) (words : List (Bor (List ℕ))) → list_any (λ w. bytes_eq text w.now) words ≡ list_any (bytes_eq text) (map (λ w. w.now) words)
among_map text [] = refl
among_map text (w ∷ ws) = ap (λ b. bytes_eq text w.now || b) (among_map text ws)
