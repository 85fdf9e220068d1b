use Rattle.std.proofs.Common.{◌≡◌, ◌∙◌, ◌||◌, ap, inr, length, subst, sym, IfNone, IfSome}
use Rattle.zdd_store.specs.inner.Family.{IsAntichain, covers}
use Rattle.zdd_store.specs.inner.Store.{family_of}
use Rattle.probabilities.specs.Decided.{rates_of}
use Rattle.probabilities.specs.inner.Cofactors.{IsGivenUp}
use Rattle.probabilities.specs.inner.Decided.{AreBoundsOf}
use Rattle.probabilities.specs.inner.Sharp.{IsSharp}
use Rattle.zdd_families.proofs.Pairs.{found_kept}
use Rattle.order_bounds.proofs.Wider.{wider}
use Rattle.order_bounds.proofs.bounds.order_bounds.Goals as goal

pub returns-clause-bounds : goal.returns-clause-bounds
returns-clause-bounds c =
    let whole = c.args.whole in
    let list = c.args.rates.now in
    let small = c.args.small.now in
    let s0 = c.args.store.now in
    let s1 = c.many_family.new.store in
    let s2 = c.min_union.new.store in
    let s3 = c.family_bounds.new.store in
    let first : family_of s1 small.id ≡ family_of s0 small.id = c.many_family.ensures.kept.same small.id.position c.requires.id_in in
    let second : family_of s2 small.id ≡ family_of s0 small.id = c.min_union.ensures.kept.same small.id.position (found_kept s0 s1 small.id c.many_family.ensures.kept c.requires.id_in) ∙ first in
    let all : family_of s3 c.in_ok-all.all ≡ family_of s2 c.in_ok-all.all = c.family_bounds.ensures.kept.same c.in_ok-all.all.position c.in_ok-all.ensures.found in
    wider whole list (family_of s0 small.id) (family_of s3 c.in_ok-all.all) small.most small.events.now c.in-Some.least c.in-Some-2.most
    (λ set.
    ap (λ family. covers family set) all ∙ c.in_ok-all.ensures.covers.covering set
    ∙ ap (λ family. covers family set || covers (family_of s1 c.in_ok-many.many) set) first ∙ ap (λ b. covers (family_of s0 small.id) set || b) (c.in_ok-many.ensures.covers set))
    (subst (λ family. AreBoundsOf whole (rates_of whole list) (length list) family c.in-Some.least) second (subst (λ found. IfSome found (AreBoundsOf whole (rates_of whole list) (length list) (family_of s2 small.id))) c.in-Some.is c.in_ok-least.ensures.bounds))
    (subst (λ family. IsSharp whole list family c.in-Some.least) second (subst (λ found. IfSome found (IsSharp whole list (family_of s2 small.id))) c.in-Some.is c.in_ok-least.ensures.sharp))
    (subst (λ found. IfSome found (AreBoundsOf whole (rates_of whole list) (length list) (family_of s3 c.in_ok-all.all))) c.in-Some-2.is c.in_ok-most.ensures.bounds)
    (subst (λ found. IfSome found (IsSharp whole list (family_of s3 c.in_ok-all.all))) c.in-Some-2.is c.in_ok-most.ensures.sharp)

pub returns-in_default-2-clause-none : goal.returns-in_default-2-clause-none
returns-in_default-2-clause-none c antichain =
    let list = c.args.rates.now in
    let small = c.args.small.now in
    let s0 = c.args.store.now in
    let s1 = c.many_family.new.store in
    let s2 = c.min_union.new.store in
    let s3 = c.family_bounds.new.store in
    let first : family_of s1 small.id ≡ family_of s0 small.id = c.many_family.ensures.kept.same small.id.position c.requires.id_in in
    let all : family_of s3 c.in_ok-all.all ≡ family_of s2 c.in_ok-all.all = c.family_bounds.ensures.kept.same c.in_ok-all.all.position c.in_ok-all.ensures.found in
    let apart : IsAntichain (family_of s3 c.in_ok-all.all) = subst IsAntichain (sym all) c.in_ok-all.ensures.covers.apart in
    inr (record {
      family = family_of s3 c.in_ok-all.all;
      covering = λ set.
          ap (λ family. covers family set) all ∙ c.in_ok-all.ensures.covers.covering set
          ∙ ap (λ family. covers family set || covers (family_of s1 c.in_ok-many.many) set) first ∙ ap (λ b. covers (family_of s0 small.id) set || b) (c.in_ok-many.ensures.covers set);
      apart = apart;
      given_up = subst (λ found. IfNone found (IsGivenUp (length list) c.args.looked (family_of s3 c.in_ok-all.all))) c.in_default-2.is (c.in_ok-most.ensures.none apart);
    })
