-- Without `orless` a condition may hold where it does by the first profile.
use Rattle.std.proofs.Common.{◌≡◌, Bool, true, List, [], ◌∷◌, map, sym, refl, ap, ◌∙◌, subst}
use Rattle.std.proofs.lemmas.Bool.{false≢true}
use Rattle.std.specs.List.{list_all}
use Rattle.aadl_syntax.specs.declared.error_model.Atom.{Atom}
use Rattle.aadl_syntax.specs.declared.error_model.Condition.{Condition, map-Condition, roll-Condition, fold-roll-Condition, ind-Condition}
use Rattle.aadl_syntax.specs.declared.error_model.Condition.TheOpen.{Condition-F}
use Rattle.aadl_syntax.specs.declared.error_model.Condition.TheOpen as condition
use Rattle.error_conditions.specs.Conditions.{Pair, holds_of, pair_of, pair_step}
use Rattle.error_conditions.specs.declared.cause.Cause.{Cause}
use Rattle.error_conditions.specs.declared.cause.Cause.TheVariants.{All, Any, AtLeast}
use Rattle.error_conditions.specs.inner.First.{cause_of, cause_step, is_plain, plain_step}
use Rattle.error_conditions.proofs.Covering.{first-of-all, rest-of-all}

module _ (meaning : Atom → Pair) where
  abbrev Same : Condition → Type 0
  Same c = is_plain c ≡ true → (pair_of meaning c).holds ≡ cause_of (λ atom. (meaning atom).holds) c

  abbrev Part : Type 0
  Part = (c : Condition) × Same c

  same-parts : (ps : List Part) → list_all (λ b. b) (map is_plain (map (λ p. p.0) ps)) ≡ true
      → holds_of (map (pair_of meaning) (map (λ p. p.0) ps)) ≡ map (cause_of (λ atom. (meaning atom).holds)) (map (λ p. p.0) ps)
  same-parts [] e = refl
  same-parts (p ∷ ps) e =
      let plain = map is_plain (map (λ (q : Part). q.0) ps) in
      λ i. p.1 (first-of-all (is_plain p.0) plain e) i ∷ same-parts ps (rest-of-all (is_plain p.0) plain e) i

  abbrev Layer : Condition-F Condition → Type 0
  Layer x = plain_step (map-Condition Condition Bool is_plain x) ≡ true
      → (pair_step meaning (map-Condition Condition Pair (pair_of meaning) x)).holds ≡ cause_step (λ atom. (meaning atom).holds) (map-Condition Condition Cause (cause_of (λ atom. (meaning atom).holds)) x)

  layer : (y : Condition-F Part) → Layer (map-Condition Part Condition (λ p. p.0) y)
  layer (condition.Atom atom) e = refl
  layer (condition.All ps) e = ap All (same-parts ps e)
  layer (condition.Any ps) e = ap Any (same-parts ps e)
  layer (condition.AtLeast least ps) e = ap (AtLeast least) (same-parts ps e)
  layer (condition.AtMost most ps spot) e = absurd (false≢true e)

  rolled : (y : Condition-F Condition) → Layer y → Same (roll-Condition y)
  rolled y l e =
      ap (λ p. p.holds) (fold-roll-Condition Pair (pair_step meaning) y)
      ∙ l (sym (fold-roll-Condition Bool plain_step y) ∙ e)
      ∙ sym (fold-roll-Condition Cause (cause_step (λ atom. (meaning atom).holds)) y)

  pub holds-plain : (c : Condition) → Same c
  holds-plain = ind-Condition Same (λ x y is. rolled x (subst Layer is (layer y)))
