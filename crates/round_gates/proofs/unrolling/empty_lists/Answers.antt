use Rattle.std.proofs.Common.{◌≡◌, ◌+◌, ◌∙◌, ◌++◌, ◌∷◌, [], List, ℕ, length, get_or, ap, length-append}
use Rattle.round_gates.proofs.Gathering.{push-default}
use Rattle.round_gates.proofs.unrolling.empty_lists.Goals as goal

pub loop-preserved : goal.loop-preserved
loop-preserved c = record {
  count = ap length c.in_ok-push.ensures.items ∙ pushed c.loop.lists.items c.new.result ∙ ap (λ n. n + 1) c.loop.invariant.count;
  empty = λ k. ap (λ (xs : List (List ℕ)). get_or xs k []) (c.in_ok-push.ensures.items ∙ ap (λ (x : List ℕ). c.loop.lists.items ++ x ∷ []) c.new.ensures) ∙ push-default c.loop.lists.items [] k ∙ c.loop.invariant.empty k;
} where
  pushed : (xs : List (List ℕ)) (x : List ℕ) → length (xs ++ x ∷ []) ≡ length xs + 1
  pushed xs x = length-append xs (x ∷ [])
