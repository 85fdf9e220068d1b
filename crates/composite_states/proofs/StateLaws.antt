-- A component below that is in a state is covered by what it means that it is in some of its states.
use Rattle.std.proofs.Common.{ℕ, zero, suc, ◌≡◌, ◌<◌, ◌||◌, ◌⊎◌, Bool, true, false, cond, not, nat_eq, List, [], ◌∷◌, map, inl, inr, ⊎_elim, sym, refl, ap, ◌∙◌, subst, arith, rules, tests}
use Rattle.std.proofs.lemmas.Bool.{cases_lt, eq-eqb, false≢true, or_left, or_right}
use Rattle.std.proofs.lemmas.List.Elements.{filter-append}
use Rattle.std.proofs.lemmas.List.Folds.{list_any-append}
use Rattle.std.specs.List.{list_any}
use Rattle.plain_values.specs.Numbered.{numbers_below}
use Rattle.error_libraries.specs.Search.{is_number_in}
use Rattle.propagation_points.specs.declared.held.Held.{Held}
use Rattle.propagation_points.specs.declared.held.Held.TheVariants as held
use Rattle.propagation_points.specs.States.{held_numbers}
use Rattle.error_conditions.specs.Conditions.{held_cause}
use Rattle.error_conditions.specs.declared.cause.Cause.{Cause, fold-roll-Cause}
use Rattle.error_conditions.specs.declared.cause.Cause.TheOpen as open_cause
use Rattle.error_conditions.specs.declared.cause.Cause.TheVariants.{Any, State, rolls-State}
use Rattle.error_conditions.specs.declared.cause.StateBelow.{StateBelow}
use Rattle.error_conditions.specs.inner.Strict.{Covers, World, truth, truth_step}
use Rattle.error_conditions.proofs.Covering.{truth-Any}
use Rattle.composite_states.specs.Below.{others_in, state_pair, variant_cause}

or-more : (a b d : Bool) → (a ≡ true → d ≡ true) → (b ≡ true → d ≡ true) → (a || b) ≡ true → d ≡ true
or-more true b d f g e = f refl
or-more false b d f g e = g e

same-number : (a b : ℕ) → nat_eq a b ≡ true → a ≡ b
same-number a b e = search (rules, tests)

last-one : (n : ℕ) (b : Bool) → b ≡ false → is_number_in (cond (not b) (n ∷ []) []) n ≡ true
last-one n true e = absurd (false≢true (sym e))
last-one n false e = or_left _ _ (eq-eqb n n refl)

below-or-is : (a b : ℕ) → a < suc b → (a < b) ⊎ (a ≡ b)
below-or-is a b l = ⊎_elim (λ less. inl less) (λ most. inr (omega arith)) (cases_lt a b)

-- a variant that is not among these is among the others
among-others : (held : List ℕ) (number count : ℕ) → number < count → is_number_in held number ≡ false → is_number_in (others_in held (numbers_below count)) number ≡ true
among-others held number zero l e = absurd (omega arith)
among-others held number (suc n) l e =
    ap (λ xs. is_number_in xs number) (filter-append (λ k. not (is_number_in held k)) (numbers_below n) (n ∷ []))
    ∙ list_any-append (λ other. nat_eq other number) (others_in held (numbers_below n)) (others_in held (n ∷ []))
    ∙ ⊎_elim
    (λ below. or_left _ _ (among-others held number n below e))
    (λ is. or_right (is_number_in (others_in held (numbers_below n)) number) _ (subst (λ k. is_number_in (others_in held (k ∷ [])) number ≡ true) is (last-one number (is_number_in held number) e)))
    (below-or-is number n l)

module _ (world : World) (path : List (List ℕ)) (number : ℕ) (there : world.states (record { path = path; state = number }) ≡ true) where
  truth-State : (below : StateBelow) → truth world (State below) ≡ world.states below
  truth-State below = ap (truth world) (sym (rolls-State below)) ∙ fold-roll-Cause Bool (truth_step world) (open_cause.State below)

  -- it is in the variant of a number that is this one
  in-it : (n : ℕ) → nat_eq n number ≡ true → truth world (variant_cause path n) ≡ true
  in-it n is = truth-State (record { path = path; state = n }) ∙ ap (λ k. world.states (record { path = path; state = k })) (same-number n number is) ∙ there

  any-in : (xs : List ℕ) → is_number_in xs number ≡ true → list_any (λ b. b) (map (truth world) (map (variant_cause path) xs)) ≡ true
  any-in [] e = e
  any-in (x ∷ xs) e = or-more (nat_eq x number) (is_number_in xs number) _
      (λ is. or_left _ _ (in-it x is))
      (λ later. or_right (truth world (variant_cause path x)) _ (any-in xs later)) e

  in-one : (xs : List ℕ) → is_number_in xs number ≡ true → truth world (Any (map (variant_cause path) xs)) ≡ true
  in-one xs e = truth-Any world (map (variant_cause path) xs) ∙ any-in xs e

  held-true : (selected : Held) → is_number_in (held_numbers selected) number ≡ true → truth world (held_cause (variant_cause path) selected) ≡ true
  held-true (held.One n) e = or-more (nat_eq n number) false _ (λ is. in-it n is) (λ none. absurd (false≢true none)) e
  held-true (held.Any numbers) e = in-one numbers e

  pub state-covered : (count : ℕ) (selected : Held) → number < count → Covers world (is_number_in (held_numbers selected) number) (state_pair path count selected)
  state-covered count selected within = record {
    holding = held-true selected;
    failing = λ e. in-one (others_in (held_numbers selected) (numbers_below count)) (among-others (held_numbers selected) number count within e);
  }
