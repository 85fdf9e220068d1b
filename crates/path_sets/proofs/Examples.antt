-- Worked examples, by computation.
use Rattle.std.proofs.Common.{◌≡◌, List, [], ◌∷◌, refl}
use Rattle.fault_system.specs.declared.formula.Formula.{Formula}
use Rattle.fault_system.specs.declared.formula.Formula.TheVariants.{Event, Or, AtLeast}
use Rattle.path_sets.specs.Duals.{dual_count}

abbrev three : List Formula
three = Event 0 ∷ Event 1 ∷ Event 2 ∷ []

-- two of three are two of three; all of three are one of three, and one of three all
two_of_three : dual_count 2 three ≡ AtLeast 2 three
two_of_three = refl

all_of_three : dual_count 3 three ≡ AtLeast 1 three
all_of_three = refl

one_of_three : dual_count 1 three ≡ AtLeast 3 three
one_of_three = refl

-- more than there are is never true, and so its dual is always true; none at all is always true
more_than_all : dual_count 5 three ≡ AtLeast 0 three
more_than_all = refl

none_at_all : dual_count 0 three ≡ Or []
none_at_all = refl
