-- The names of an end: the last of them, and those before it.
use Rattle.std.proofs.Common.{ℕ, ◌-◌, ◌≡◌, List, [], ◌∷◌, ◌++◌, length, slice_get, Some, ap, ◌∙◌, length-append, arith}
use Rattle.package_index.specs.Names.{front, last}
use Rattle.instantiator.proofs.Lists.{get-last}
use Rattle.instantiator.proofs.PathLaws.{front-snoc}

pub front-is : (names fronts : List (List ℕ)) (name : List ℕ) → names ≡ fronts ++ name ∷ [] → front names ≡ fronts
front-is names fronts name is = ap front is ∙ front-snoc fronts name

pub last-is : (names fronts : List (List ℕ)) (name : List ℕ) → names ≡ fronts ++ name ∷ [] → last names ≡ Some name
last-is names fronts name is =
    let long : length (fronts ++ name ∷ []) - 1 ≡ length fronts = omega (arith, length-append fronts (name ∷ [])) in
    ap last is ∙ ap (slice_get (fronts ++ name ∷ [])) long ∙ get-last fronts name
