use Rattle.std.proofs.Common.{◌≡◌, ◌∙◌, ap, subst, length, slice_set}
use Rattle.std.specs.Prelude.{IfOk, IfSome, IfNone}
use Rattle.std.specs.HashMap.{get}
use Rattle.std.proofs.lemmas.List.{length-set}
use Rattle.zdd_store.specs.inner.Store.{family_of}
use Rattle.zdd_store.specs.contracts.id.IdPartialEq.TheImpl.{eq-value as id_eq}
use Rattle.probabilities.specs.inner.Remembered.{IsBounded}
use Rattle.probabilities.specs.inner.Cofactors.{IsGivenUp}
use Rattle.probabilities.proofs.Cofactors.{root_cofactor, given_up, nothing_known}
use Rattle.probabilities.proofs.Setting.{certain_found}
use Rattle.probabilities.proofs.importance.bounds_with.Goals as goal

pub returns-clause-bounds : goal.returns-clause-bounds
returns-clause-bounds c k few certain narrow sharp =
    let family = family_of c.args.store.now c.args.id in
    certain_found c.args.whole k c.args.event c.args.rates.now c.args.rate family c.bounds_in.result c.requires.inside few c.requires.rates certain narrow sharp
    (subst (λ list. IfOk c.bounds_in.result (λ found. IfSome found (IsBounded c.args.whole list family))) (c.as_slice.ensures.value ∙ c.in_ok-list.ensures) c.bounds_in.ensures.bounds.bounds)

pub returns-clause-none : goal.returns-clause-none
returns-clause-none c apart =
    let family = family_of c.args.store.now c.args.id in
    let count = ap length (c.as_slice.ensures.value ∙ c.in_ok-list.ensures) ∙ length-set c.args.rates.now c.args.event c.args.rate in
    subst (λ n. IfOk c.bounds_in.result (λ found. IfNone found (IsGivenUp n c.args.most family))) count
    (given_up (length c.as_slice.result.now) c.args.most family c.bounds_in.new.store (get id_eq.it c.bounds_in.new.known) c.bounds_in.result
    (c.bounds_in.ensures.traced family record { found = c.requires.id_in; apart = apart; cofactor = root_cofactor family } (nothing_known id_eq.it family c.args.store.now c.new-known.result.entries c.new-known.ensures.empty)))
