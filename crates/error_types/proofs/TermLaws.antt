-- The terms of a written set, one after the other.
use Rattle.std.proofs.Common.{ℕ, suc, ◌+◌, ◌≡◌, ◌<◌, List, ◌∷◌, length, drop, get_or, Option, sym, ap, ◌∙◌, add-one, drop-cons}
use Rattle.aadl_syntax.specs.declared.error_model.Term.{Term}
use Rattle.plain_values.specs.declared.refusal.Refusal.{Refusal}
use Rattle.plain_values.specs.Order.{nearer}
use Rattle.error_libraries.specs.declared.scope.Scope.{Scope}
use Rattle.error_libraries.specs.Libraries.{Table}
use Rattle.error_types.specs.Walk.{term_first, terms_first}
use Rattle.plain_values.proofs.OrderLaws.{nearer-assoc}

pub terms-more : (table : Table) (scope : Scope) (terms : List Term) (i : ℕ) (term : Term) → i < length terms → term ≡ get_or terms i term → (first next goal : Option Refusal)
    → next ≡ nearer first (term_first table scope term) → nearer first (terms_first table scope (drop i terms)) ≡ goal → nearer next (terms_first table scope (drop (i + 1) terms)) ≡ goal
terms-more table scope terms i term within is first next goal noted had =
    let split : drop i terms ≡ term ∷ drop (i + 1) terms = drop-cons terms i term within ∙ ap (λ t. t ∷ drop (suc i) terms) (sym is) ∙ ap (λ n. term ∷ drop n terms) (sym (add-one i)) in
    ap (λ f. nearer f (terms_first table scope (drop (i + 1) terms))) noted
    ∙ nearer-assoc first (term_first table scope term) (terms_first table scope (drop (i + 1) terms))
    ∙ ap (λ left. nearer first (terms_first table scope left)) (sym split) ∙ had
