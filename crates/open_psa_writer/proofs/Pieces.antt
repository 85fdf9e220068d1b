-- Texts that are added piece by piece.
use Rattle.std.proofs.Common.{ℕ, ◌≡◌, List, ◌++◌, ap, ◌∙◌}
use Rattle.std.proofs.lemmas.List.{append_assoc}

-- a piece, and what was added behind it
pub before : (line p q : List ℕ) {now later : List ℕ} → now ≡ line ++ p → later ≡ now ++ q → later ≡ line ++ (p ++ q)
before line p q e f = f ∙ ap (λ t. t ++ q) e ∙ append_assoc line p q

-- two pieces as one, and what was added behind them
pub before-two : (line a b q : List ℕ) {now later : List ℕ} → now ≡ line ++ (a ++ b) → later ≡ now ++ q → later ≡ line ++ (a ++ (b ++ q))
before-two line a b q e f = before line (a ++ b) q e f ∙ ap (λ t. line ++ t) (append_assoc a b q)

-- three pieces as one, and what was added behind them
pub before-three : (line a b c q : List ℕ) {now later : List ℕ} → now ≡ line ++ (a ++ (b ++ c)) → later ≡ now ++ q → later ≡ line ++ (a ++ (b ++ (c ++ q)))
before-three line a b c q e f =
    before line (a ++ (b ++ c)) q e f ∙ ap (λ t. line ++ t) (append_assoc a (b ++ c) q ∙ ap (λ t. a ++ t) (append_assoc b c q))
