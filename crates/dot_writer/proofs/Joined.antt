-- What is added to a line step by step.
use Rattle.std.proofs.Common.{◌≡◌, ℕ, List, ◌++◌, ap, ◌∙◌, append_assoc}

-- two steps that follow each other
pub joined : (a b c y z : List ℕ) → b ≡ a ++ y → c ≡ b ++ z → c ≡ a ++ (y ++ z)
joined a b c y z first second = second ∙ ap (λ t. t ++ z) first ∙ append_assoc a y z

-- three steps
pub joined-three : (a b c d x y z : List ℕ) → b ≡ a ++ x → c ≡ b ++ y → d ≡ c ++ z → d ≡ a ++ (x ++ (y ++ z))
joined-three a b c d x y z first second third = joined a b d x (y ++ z) first (joined b c d y z second third)

-- four steps
pub joined-four : (a b c d e w x y z : List ℕ) → b ≡ a ++ w → c ≡ b ++ x → d ≡ c ++ y → e ≡ d ++ z → e ≡ a ++ (w ++ (x ++ (y ++ z)))
joined-four a b c d e w x y z first second third fourth = joined a b e w (x ++ (y ++ z)) first (joined-three b c d e x y z second third fourth)
