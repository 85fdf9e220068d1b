-- What follows from a fact, round by round.
use Rattle.std.proofs.Common.{ℕ, zero, suc, eqb, ◌+◌, ◌-◌, ◌≡◌, ◌≤◌, Bool, true, false, ◌&&◌, ◌||◌, not, List, [], ◌∷◌, ◌++◌, filter, length, ap, ◌∙◌, sym, refl, arith, add-one, append-nil}
use Rattle.std.proofs.lemmas.List.Folds.{list_any-append}
use Rattle.fault_system.specs.Truth.{NumberSet, member, set_of}
use Rattle.fault_system.specs.Systems.{System, applied}
use Rattle.fault_system.specs.Rounds.{no_event, only}
use Rattle.std.proofs.lemmas.Bool.{eq-eqb, eqb-true}
use Rattle.fault_system.proofs.TruthLaws.{same_answer}
use Rattle.fault_system.proofs.NumberSets.{same_set, set_of-filter}
use Rattle.system_review.specs.Alone.{and_next, following}
use Rattle.system_review.specs.inner.Steps.{is_next}

or_none : (b : Bool) → b || false ≡ b
or_none true = refl
or_none false = refl

new_or_old : (s m a : Bool) → s || (m && (not s && a)) ≡ s || (m && a)
new_or_old true m a = refl
new_or_old false m a = refl

module _ (system : System) (among : List ℕ) where
  next-set : (found : List ℕ) → set_of (found ++ filter (is_next system found) among) ≡ and_next system among (set_of found)
  next-set found = same_set (λ n.
      list_any-append (λ m. eqb m n) found (filter (is_next system found) among)
      ∙ ap (λ b. set_of found n || b) (set_of-filter (is_next system found) among n)
      ∙ new_or_old (set_of found n) (set_of among n) (member (applied system no_event (set_of found)) n))

  -- some are added
  pub added-set : (old facts more shown new : List ℕ) → facts ≡ old → more ≡ filter (is_next system facts) among → shown ≡ more → new ≡ old ++ shown → set_of new ≡ and_next system among (set_of old)
  added-set old facts more shown new same is same_more made =
      ap set_of (made ∙ ap (λ ns. old ++ ns) (same_more ∙ is ∙ ap (λ ns. filter (is_next system ns) among) same)) ∙ next-set old

  -- there are none to add
  pub none-set : (old facts more : List ℕ) → facts ≡ old → more ≡ filter (is_next system facts) among → length more ≡ 0 → set_of old ≡ and_next system among (set_of old)
  none-set old facts more same is none = added-set old facts more [] old same is (sym (empty more none)) (sym (append-nil old)) where
    empty : (ns : List ℕ) → length ns ≡ 0 → ns ≡ []
    empty [] e = refl
    empty (n ∷ ns) e = absurd (omega arith)

module _ (system : System) (among : List ℕ) (cause : ℕ) where
  -- where a round adds nothing, none does
  stays : (r : ℕ) → following system among cause (suc r) ≡ following system among cause r → (k : ℕ) → following system among cause (k + r) ≡ following system among cause r
  stays r same zero = let none : zero + r ≡ r = omega arith in ap (following system among cause) none
  stays r same (suc k) =
      let step : suc k + r ≡ suc (k + r) = omega arith in
      ap (following system among cause) step ∙ ap (and_next system among) (stays r same k) ∙ same

  pub following-next : (r : ℕ) (old new : NumberSet) → old ≡ following system among cause r → new ≡ and_next system among old → new ≡ following system among cause (r + 1)
  following-next r old new so_far made = made ∙ ap (and_next system among) so_far ∙ ap (following system among cause) (sym (add-one r))

  pub following-end : (r : ℕ) (old new : NumberSet) → old ≡ following system among cause r → new ≡ and_next system among old → new ≡ old → r ≤ length among → new ≡ following system among cause (length among)
  following-end r old new so_far made none few =
      let same : following system among cause (suc r) ≡ following system among cause r =
      ap (and_next system among) (sym so_far) ∙ sym made ∙ none ∙ so_far in
      let all : length among - r + r ≡ length among = omega (arith, few) in
      none ∙ so_far ∙ sym (stays r same (length among - r)) ∙ ap (following system among cause) all

eqb-back : (a b : ℕ) → eqb a b ≡ eqb b a
eqb-back a b = same_answer _ _ (λ e. eq-eqb b a (sym (eqb-true a b e))) (λ e. eq-eqb a b (sym (eqb-true b a e)))

-- the fact alone, from which it goes
pub following-first : (cause : ℕ) (found : List ℕ) → found ≡ cause ∷ [] → set_of found ≡ only cause
following-first cause found made = ap set_of made ∙ same_set (λ n. or_none (eqb cause n) ∙ eqb-back cause n)
