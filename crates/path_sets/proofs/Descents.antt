-- Without feedback nothing can go down for ever: what leads from each fact to one that occurs in its formula holds of no fact.
use Rattle.std.proofs.Common.{ℕ, zero, suc, ◌+◌, ◌≡◌, ◌<◌, ◌≤◌, Bool, true, false, List, length, set, replicate, ⊎_elim, ap, ◌∙◌, sym, subst, refl, arith, length-set}
use Rattle.std.proofs.lemmas.Bool.{false≢true, cases_Bool}
use Rattle.std.proofs.lemmas.Option.{slice_get_within}
use Rattle.fault_system.specs.Truth.{Has, member, count_true, occurs}
use Rattle.fault_system.specs.Systems.{System, IsFact}
use Rattle.fault_system.specs.declared.formula.FactInfo.{FactInfo}
use Rattle.fault_system.proofs.TruthLaws.{count_true-le}
use Rattle.fault_system.proofs.NumberSets.{count-put, member-put, member-replicate}
use Rattle.backward_slice.specs.Slices.{DependsOn}
use Rattle.path_sets.specs.inner.Duals.{IsWithoutFeedback}

length-none : (size : ℕ) → length (replicate size false) ≡ size
length-none zero = refl
length-none (suc size) = ap suc (length-none size)

module _ (system : System) (free : IsWithoutFeedback system) (P : ℕ → Type 0) where
  -- P holds of a fact in whose formula another occurs of which it holds
  abbrev pub Descends : ℕ → Type 0
  Descends n = (fact : FactInfo) × (m : ℕ) × IsFact system n fact × (occurs m fact.formula ≡ true) × P m

  -- where all facts so far lead to one, and not so many are left, P does not hold of it
  abbrev Ends : ℕ → Type 0
  Ends left = (seen : List Bool) (n : ℕ) → length seen ≡ length system.facts → length seen ≤ count_true seen + left → member seen n ≡ false → ((k : ℕ) → Has (member seen) k → DependsOn system k n) → P n → ⊥

  module _ (seen : List Bool) (n : ℕ) (size : length seen ≡ length system.facts) (fresh : member seen n ≡ false) (lead : (k : ℕ) → Has (member seen) k → DependsOn system k n) (fact : FactInfo) (at : IsFact system n fact) where
    here : n < length seen
    here = omega (arith, slice_get_within system.facts n fact at, size)

    one_more : count_true (set seen n true) ≡ count_true seen + 1
    one_more = count-put seen n here fresh

    no_room : length seen ≤ count_true seen + zero → ⊥
    no_room few = omega (arith, one_more, count_true-le (set seen n true), length-set seen n true)

    to_here : (k : ℕ) → Has (member (set seen n true)) k → DependsOn system k n
    to_here k e = ⊎_elim (λ same. subst (λ x. DependsOn system x n) (sym same) (λ set causes own. own)) (λ before. lead k before) (member-put seen n k e)

    go_on : (left : ℕ) → length seen ≤ count_true seen + suc left → Ends left → (m : ℕ) → occurs m fact.formula ≡ true → P m → ⊥
    go_on left few ends m o next = ⊎_elim
        (λ old. free n m fact at o (to_here m old))
        (λ new. ends (set seen n true) m (length-set seen n true ∙ size) (omega (arith, one_more, length-set seen n true)) new
        (λ k e set causes own. causes n m fact (to_here k e set causes own) at o) next)
        (cases_Bool (member (set seen n true) m))

  walk : ((n : ℕ) → P n → Descends n) → (left : ℕ) → Ends left
  walk down zero seen n size few fresh lead has =
      let (fact, m, at, o, next) = down n has in no_room seen n size fresh lead fact at few
  walk down (suc left) seen n size few fresh lead has =
      let (fact, m, at, o, next) = down n has in go_on seen n size fresh lead fact at left few (walk down left) m o next

  -- what leads on from each fact of which it holds holds of none
  pub no-descent : ((n : ℕ) → P n → Descends n) → (n : ℕ) → P n → ⊥
  no-descent down n has =
      let none : List Bool = replicate (length system.facts) false in
      walk down (length system.facts) none n (length-none (length system.facts)) (omega (arith, length-none (length system.facts)))
      (member-replicate (length system.facts) n) (λ k e. absurd (false≢true (sym (member-replicate (length system.facts) k) ∙ e))) has
