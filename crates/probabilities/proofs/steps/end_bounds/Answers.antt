use Rattle.std.proofs.Common.{◌≡◌, ◌∙◌, ◌∷◌, [], ◌*◌, ◌^◌, ap, sym, subst, inl, inr, refl, length, arith}
use Rattle.zdd_store.specs.inner.Store.{family_at, family_of}
use Rattle.probabilities.specs.inner.Bounded.{IsLowerBound, IsUpperBound}
use Rattle.probabilities.proofs.Bounding.{lower-none, upper-none, lower-full, upper-full}
use Rattle.decimals.proofs.Nearness.{near_same}
use Rattle.probabilities.proofs.Deciding.{not_both}
use Rattle.probabilities.proofs.Sharpening.{none_sharp, full_sharp}
use Rattle.probabilities.proofs.steps.end_bounds.Goals as goal

pub returns-then-id-eq0-clause-bounds : goal.returns-then-id-eq0-clause-bounds
returns-then-id-eq0-clause-bounds c =
    let is : family_of c.args.store.now c.args.id ≡ [] = ap (family_at c.args.store.now) c.if-id-eq0.true ∙ c.laws.ensures.empty in
    let s = 10 ^ c.args.whole in
    let end = length c.args.rates.now in
    record {
      all = λ rates right every. record {
        lower = subst (λ f. IsLowerBound s rates end f 0) (sym is) (lower-none s rates end);
        upper = subst (λ f. IsUpperBound s rates end f 0) (sym is) (upper-none s rates end);
        most = omega arith;
      };
      narrow = λ places units narrow fit. record { within = omega arith; lower_places = inl refl; upper_places = inl refl; near = near_same _ 0 };
      sharp = none_sharp c.args.whole c.args.rates.now (family_of c.args.store.now c.args.id) _ is (omega arith) (omega arith) (λ places. inl refl) (λ places. inl refl);
    }

pub returns-clause-bounds : goal.returns-clause-bounds
returns-clause-bounds c =
    let at : c.args.id.position ≡ 1 = omega (arith, c.requires, c.if-id-eq0.false) in
    let is : family_of c.args.store.now c.args.id ≡ [] ∷ [] = ap (family_at c.args.store.now) at ∙ c.laws.ensures.unit in
    let s = 10 ^ c.args.whole in
    let end = length c.args.rates.now in
    record {
      all = λ rates right every. record {
        lower = subst (λ f. IsLowerBound s rates end f (1 * s)) (sym is) (lower-full s rates end (1 * s) (omega arith));
        upper = subst (λ f. IsUpperBound s rates end f (1 * s)) (sym is) (upper-full s rates end (1 * s) (omega arith));
        most = omega arith;
      };
      narrow = λ places units narrow fit. record { within = omega arith; lower_places = inr (omega arith); upper_places = inr (omega arith); near = near_same _ (1 * s) };
      sharp = full_sharp c.args.whole c.args.rates.now (family_of c.args.store.now c.args.id) _ is (omega arith) (omega arith) (λ places. inr (omega arith)) (λ places. inr (omega arith));
    }

pub returns-then-id-eq0-clause-ends : goal.returns-then-id-eq0-clause-ends
returns-then-id-eq0-clause-ends c =
    let is : family_of c.args.store.now c.args.id ≡ [] = ap (family_at c.args.store.now) c.if-id-eq0.true ∙ c.laws.ensures.empty in
    record { none = λ here. (refl, refl); full = λ here. absurd (not_both _ is here) }

pub returns-clause-ends : goal.returns-clause-ends
returns-clause-ends c =
    let at : c.args.id.position ≡ 1 = omega (arith, c.requires, c.if-id-eq0.false) in
    let is : family_of c.args.store.now c.args.id ≡ [] ∷ [] = ap (family_at c.args.store.now) at ∙ c.laws.ensures.unit in
    record { none = λ here. absurd (not_both _ here is); full = λ here. ((refl, refl), (refl, refl)) }
