use Rattle.std.proofs.Common.{◌≡◌, Bor, List, ℕ, [], ◌∷◌, map, true, subst, sym}
use Rattle.std.specs.List.{AllByRecursion}
use Rattle.fta_words.specs.Words.{is_given}
use Rattle.fta_words.proofs.options.are_complete.Goals as goal

to : (P : List ℕ → Type 0) (names : List (Bor (List ℕ))) → AllByRecursion (λ (name : Bor (List ℕ)). P name.now) names → AllByRecursion P (map (λ (name : Bor (List ℕ)). name.now) names)
to P [] all = tt
to P (name ∷ names) all = (all.0, to P names all.1)

back : (P : List ℕ → Type 0) (names : List (Bor (List ℕ))) → AllByRecursion P (map (λ (name : Bor (List ℕ)). name.now) names) → AllByRecursion (λ (name : Bor (List ℕ)). P name.now) names
back P [] all = tt
back P (name ∷ names) all = (all.0, back P names all.1)

pub returns : goal.returns
returns c = λ given words allowed.
    let Is = λ (name : List ℕ). is_given name given ≡ true in
    let tells = c.are_given.ensures given words allowed in
    let names = c.required_of.result.now in
    (λ all. subst (AllByRecursion Is) c.required_of.ensures (to Is names (tells.0 all)), λ all. tells.1 (back Is names (subst (AllByRecursion Is) (sym c.required_of.ensures) all)))
