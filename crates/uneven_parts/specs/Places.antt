-- The facts in a formula.
use Rattle.std.specs.Prelude.{ℕ, List, [], ◌∷◌, flat_map}
use Rattle.fault_system.specs.declared.formula.Formula.{Formula, fold-Formula}
use Rattle.fault_system.specs.declared.formula.Formula.TheOpen.{Formula-F, True, Event, Fact, And, Or, AtLeast}

-- one formula, with the facts in each part in its place
abbrev pub facts_step : Formula-F (List ℕ) → List ℕ
facts_step True = []
facts_step (Event number) = []
facts_step (Fact number) = number ∷ []
facts_step (And parts) = flat_map (λ part. part) parts
facts_step (Or parts) = flat_map (λ part. part) parts
facts_step (AtLeast least parts) = flat_map (λ part. part) parts

-- the facts in a formula, one for each place
abbrev pub facts_in : Formula → List ℕ
facts_in = fold-Formula (List ℕ) facts_step
