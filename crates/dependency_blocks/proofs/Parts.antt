-- What one part of a gate says of all parts.
use Rattle.std.proofs.Common.{ℕ, zero, suc, ◌≡◌, ◌<◌, Bool, true, List, [], ◌∷◌, map, length, slice_index_or, ap, ◌∙◌, sym, arith}
use Rattle.std.specs.List.{list_any}
use Rattle.std.proofs.lemmas.Bool.{or_left, or_right}

pub any_at : {X : Type 0} (f : X → Bool) (xs : List X) (i : ℕ) (x : X) → i < length xs → x ≡ slice_index_or xs i x → f x ≡ true → list_any (λ b. b) (map f xs) ≡ true
any_at f [] i x h e t = absurd (omega arith)
any_at f (y ∷ ys) zero x h e t = or_left (f y) _ (sym (ap f e) ∙ t)
any_at f (y ∷ ys) (suc i) x h e t = or_right (f y) _ (any_at f ys i x (omega arith) e t)
