-- Lines of numbers, with one more.
use Rattle.std.proofs.Common.{◌≡◌, ◌+◌, ◌++◌, ◌∷◌, [], ℕ, List, suc, ap, append-nil, ◌∙◌, arith}
use Rattle.std.specs.List.{flat_map}
use Rattle.std.proofs.lemmas.Grind.{flat_map-append}
use Rattle.plain_values.specs.Numbered.{numbers_below}

pub lines_more : (line : ℕ → List ℕ) (n : ℕ) → flat_map line (numbers_below (n + 1)) ≡ flat_map line (numbers_below n) ++ line n
lines_more line n =
    let one : n + 1 ≡ suc n = omega arith in
    ap (λ k. flat_map line (numbers_below k)) one ∙ flat_map-append line (numbers_below n) (n ∷ []) ∙ ap (λ rest. flat_map line (numbers_below n) ++ rest) (append-nil (line n))
