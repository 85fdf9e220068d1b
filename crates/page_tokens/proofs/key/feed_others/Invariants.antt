use Rattle.std.proofs.Common.{ℕ, List, ◌∷◌, ◌++◌, take}
use Rattle.std.specs.List.{flat_map}
use Rattle.page_tokens.proofs.key.feed_others.Given as goal

abbrev pub invariant-loop-name : goal.invariant-loop-name
invariant-loop-name g l = (m : List ℕ) → g.D.Digest.holds l.fn.hasher m → g.D.Digest.holds l.hasher (m ++ flat_map (λ other. 58 ∷ 58 ∷ other) (take l.name-index l.names))
