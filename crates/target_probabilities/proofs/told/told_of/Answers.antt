use Rattle.std.proofs.Common.{subst, length}
use Rattle.std.specs.Prelude.{IfNone, IfSome}
use Rattle.zdd_store.specs.inner.Store.{family_of}
use Rattle.zdd_families.proofs.Pairs.{found_kept}
use Rattle.probabilities.specs.Decided.{rates_of}
use Rattle.probabilities.specs.inner.Cofactors.{IsGivenUp}
use Rattle.probabilities.specs.inner.Decided.{AreBoundsOf, AreEnds}
use Rattle.probabilities.specs.inner.Sharp.{IsSharp}
use Rattle.probabilities.specs.inner.Widths.{IsNarrowed}
use Rattle.target_probabilities.specs.Probability.{most_cases}
use Rattle.target_probabilities.specs.inner.Probable.{AreOfFamily, IsOver}
use Rattle.target_probabilities.proofs.Probable.{antichain, bounds_target, given_up_cases, importances_target, probability_target, told_none}
use Rattle.target_probabilities.proofs.told.told_of.Goals as goal

pub importances_of-requires-clause-found : goal.importances_of-requires-clause-found
importances_of-requires-clause-found c = found_kept c.cut_family.new.store c.family_bounds.new.store c.in_ok-family.family c.family_bounds.ensures.kept c.in_ok-family.ensures.found

pub returns-in_default : goal.returns-in_default
returns-in_default c =
    let system = c.args.system.now in
    let target = c.args.part.now.target in
    let rates = c.args.rates.now in
    let family = family_of c.cut_family.new.store c.in_ok-family.family in
    let exact = c.in_ok-family.ensures.exact in
    let over = subst (λ o. IfNone o (IsGivenUp (length rates) most_cases family)) c.in_default.is (c.in_ok-bounds.ensures.none (antichain system c.events-count.ensures.system target family exact)) in
    told_none c.args.whole system target rates c.args.events.now _ _ c.too_many.ensures.bounds c.too_many.ensures.importances
    (given_up_cases system c.events-count.ensures.system target family exact (length rates) most_cases c.requires.all over)

pub returns-in_default-2 : goal.returns-in_default-2
returns-in_default-2 c =
    let system = c.args.system.now in
    let target = c.args.part.now.target in
    let rates = c.args.rates.now in
    let family = family_of c.cut_family.new.store c.in_ok-family.family in
    let exact = c.in_ok-family.ensures.exact in
    let same = c.family_bounds.ensures.kept.same c.in_ok-family.family.position c.in_ok-family.ensures.found in
    let over = subst (IsOver rates) same (subst (λ o. IfNone o (IsOver rates (family_of c.family_bounds.new.store c.in_ok-family.family))) c.in_default-2.is c.in_ok-importances.ensures.none) in
    told_none c.args.whole system target rates c.args.events.now _ _ c.too_many-in_default-2.ensures.bounds c.too_many-in_default-2.ensures.importances
    (given_up_cases system c.events-count.ensures.system target family exact (length rates) most_cases c.requires.all (over (antichain system c.events-count.ensures.system target family exact)))

pub returns : goal.returns
returns c =
    let system = c.args.system.now in
    let is = c.events-count.ensures.system in
    let target = c.args.part.now.target in
    let whole = c.args.whole in
    let rates = c.args.rates.now in
    let store = c.cut_family.new.store in
    let id = c.in_ok-family.family in
    let family = family_of store id in
    let exact = c.in_ok-family.ensures.exact in
    let bounds = c.in-Some.bounds in
    let right = subst (λ o. IfSome o (AreBoundsOf whole (rates_of whole rates) (length rates) family)) c.in-Some.is c.in_ok-bounds.ensures.bounds in
    let narrow = subst (λ o. IfSome o (IsNarrowed whole rates family)) c.in-Some.is c.in_ok-bounds.ensures.narrow in
    let sharp = subst (λ o. IfSome o (IsSharp whole rates family)) c.in-Some.is c.in_ok-bounds.ensures.sharp in
    let ends = subst (λ o. IfSome o (AreEnds whole family)) c.in-Some.is c.in_ok-bounds.ensures.ends in
    let same = c.family_bounds.ensures.kept.same id.position c.in_ok-family.ensures.found in
    let listed =
    subst (λ f. AreOfFamily whole rates f c.args.events.now c.in-Some-2.importances.items) same
    (subst (λ o. IfSome o (λ list. AreOfFamily whole rates (family_of c.family_bounds.new.store id) c.args.events.now list.items)) c.in-Some-2.is c.in_ok-importances.ensures.all) in (
      probability_target store c.laws.ensures system target id c.in_ok-family.ensures.found exact whole rates bounds ends (bounds_target system is target family exact whole rates c.requires.all bounds right sharp narrow),
      importances_target system is target family exact whole rates c.requires.all c.args.events.now c.in-Some-2.importances.items listed,
    )
