-- Worked examples: which links are further ways, and what facts have in common.
use Rattle.std.proofs.Common.{ℕ, ◌≡◌, true, false, [], ◌∷◌, None, Some, refl}
use Rattle.propagation_links.specs.declared.link.Link.{Link}
use Rattle.model_facts.specs.declared.keys.FactKind.TheVariants.{Enters, State}
use Rattle.uneven_parts.specs.TwoWays.{two_ways}
use Rattle.uneven_parts.specs.Unlike.{around_path, likeness_in}

-- the link from the output of a component to an input of another one
abbrev link : ℕ → ℕ → ℕ → Link
link component other point = record { from = record { component = component; point = 0; outward = true }; to = record { component = other; point = point; outward = false } }

-- the same, to an output of the component around it
abbrev up : ℕ → ℕ → Link
up component point = record { from = record { component = component; point = 0; outward = true }; to = record { component = 0; point = point; outward = true } }

-- one output at two inputs of a part: the second is a further way
one_at_two : two_ways (link 1 3 0 ∷ link 2 3 1 ∷ link 1 3 1 ∷ []) ≡ link 1 3 1 ∷ []
one_at_two = refl

-- at two parts, twice at one input, and at two outputs there is none
none_told : two_ways (link 1 3 0 ∷ link 1 4 1 ∷ link 1 3 0 ∷ up 1 0 ∷ up 1 1 ∷ []) ≡ []
none_told = refl

-- each further side once
each_once : two_ways (link 1 3 0 ∷ link 1 3 1 ∷ link 1 3 0 ∷ link 1 3 2 ∷ link 1 3 1 ∷ []) ≡ link 1 3 1 ∷ link 1 3 2 ∷ []
each_once = refl

-- there is nothing around the root
no_around : around_path [] [] ≡ None
no_around = refl

-- a state of a part has something in common with others, and what arrives has not
in_common : likeness_in (Some 0) (Some 2) (State 1) ≡ Some (0, 2, 1)
in_common = refl

nothing_in_common : likeness_in (Some 0) (Some 2) (Enters 1 1) ≡ None
nothing_in_common = refl
