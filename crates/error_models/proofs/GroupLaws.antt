-- The groups of error models one after the other, and the first refusal of them.
use Rattle.std.proofs.Common.{ℕ, suc, ◌+◌, ◌≡◌, ◌<◌, ◌≤◌, List, [], ◌∷◌, length, drop, get_or, map, Option, Some, refl, sym, ap, ◌∙◌, subst, add-one, drop-cons}
use Rattle.std.specs.Option.{option_or}
use Rattle.std.proofs.lemmas.List.{drop_all}
use Rattle.plain_values.specs.declared.refusal.Refusal.{Refusal}
use Rattle.plain_values.specs.declared.refusal.Stop.{Stop}
use Rattle.plain_values.specs.Order.{least}
use Rattle.noted_refusals.specs.Groups.{first_group, or_group}
use Rattle.noted_refusals.specs.inner.Noted.{Noted, TellsFirst}
use Rattle.noted_refusals.proofs.Laws.{least-or, told-here}
use Rattle.package_index.specs.declared.id.ClassifierId.{ClassifierId}
use Rattle.component_extension.specs.declared.effective.Effective.{Effective}
use Rattle.error_libraries.specs.Libraries.{Table}
use Rattle.propagation_points.specs.Points.{point_refusals, points_of}
use Rattle.error_flows.specs.Flows.{all_flow_refusals}
use Rattle.error_behavior.specs.Behavior.{behavior_refusals}
use Rattle.error_machines.specs.Machines.{Machine}
use Rattle.error_machines.specs.States.{states_of}
use Rattle.composite_states.specs.Below.{StatesAt}
use Rattle.composite_states.specs.Composites.{composite_clause_refusals}
use Rattle.instantiator.specs.Effectives.{effective_of}
use Rattle.error_models.specs.Below.{kind_machine, states_below}
use Rattle.error_models.specs.Refused.{first_of, group_with, model_group, model_refusal, models_group, models_refusal, refusal_with}

-- ---- groups of items one after the other

module _ {A : Type 0} (g : A → List Refusal) (xs : List A) (i : ℕ) (x : A) (goal : List Refusal) (within : i < length xs) (is : x ≡ get_or xs i x) (left : first_group (map g (drop i xs)) ≡ goal) where
  here : first_group (map g (drop i xs)) ≡ or_group (g x) (first_group (map g (drop (i + 1) xs)))
  here = ap (λ rest. first_group (map g rest)) (drop-cons xs i x within ∙ ap (λ t. t ∷ drop (suc i) xs) (sym is) ∙ ap (λ n. x ∷ drop n xs) (sym (add-one i)))

  -- an item of which nothing is refused
  pub group-step : g x ≡ [] → first_group (map g (drop (i + 1) xs)) ≡ goal
  group-step none = sym (here ∙ ap (λ group. or_group group (first_group (map g (drop (i + 1) xs)))) none) ∙ left

  -- the first item of which anything is refused
  pub group-stop : (noted : Noted) (stop : Stop) → TellsFirst (g x) noted stop → TellsFirst goal noted stop
  group-stop noted stop told = subst (λ group. TellsFirst group noted stop) (sym here ∙ left) (told-here (g x) (first_group (map g (drop (i + 1) xs))) noted stop told)

-- all of them
pub group-end : {A : Type 0} (g : A → List Refusal) (xs : List A) (i : ℕ) (goal : List Refusal) → length xs ≤ i → first_group (map g (drop i xs)) ≡ goal → goal ≡ []
group-end g xs i goal past left = sym left ∙ ap (λ rest. first_group (map g rest)) (drop_all i xs past)

-- ---- the first refusal of a group

-- of the error model of a component
pub with-least : (table : Table) (effective : Effective) (machine : Option Machine) (below : StatesAt) → least (group_with table effective machine below) ≡ refusal_with table effective machine below
with-least table effective machine below =
    let first = point_refusals table effective in
    let second = behavior_refusals table (points_of table effective) machine effective in
    let third = all_flow_refusals table (points_of table effective) (states_of table machine).sorts effective in
    let last = composite_clause_refusals below table (points_of table effective) (states_of table machine) effective in
    least-or first (or_group second (or_group third last))
    ∙ ap (option_or (least first)) (least-or second (or_group third last) ∙ ap (option_or (least second)) (least-or third last))

-- the same for a component of a classifier
pub group-is : (table : Table) (ids : List ClassifierId) (id : ClassifierId) → group_with table (effective_of table.packages id) (kind_machine table.packages id) (states_below table.profile table.packages ids (Some id)) ≡ model_group table ids id
unfolding model_group
group-is table ids id = refl

refusal-is : (table : Table) (ids : List ClassifierId) (id : ClassifierId) → refusal_with table (effective_of table.packages id) (kind_machine table.packages id) (states_below table.profile table.packages ids (Some id)) ≡ model_refusal table ids id
unfolding model_refusal
refusal-is table ids id = refl

model-least : (table : Table) (ids : List ClassifierId) (id : ClassifierId) → least (model_group table ids id) ≡ model_refusal table ids id
model-least table ids id =
    ap least (sym (group-is table ids id)) ∙ with-least table (effective_of table.packages id) (kind_machine table.packages id) (states_below table.profile table.packages ids (Some id)) ∙ refusal-is table ids id

all-least : (table : Table) (ids xs : List ClassifierId) → least (first_group (map (model_group table ids) xs)) ≡ first_of (map (model_refusal table ids) xs)
all-least table ids [] = refl
all-least table ids (id ∷ xs) =
    least-or (model_group table ids id) (first_group (map (model_group table ids) xs))
    ∙ (λ i. option_or (model-least table ids id i) (all-least table ids xs i))

-- of the error models of kinds
pub models-least : (table : Table) (ids : List ClassifierId) → least (models_group table ids) ≡ models_refusal table ids
models-least table ids = all-least table ids ids
