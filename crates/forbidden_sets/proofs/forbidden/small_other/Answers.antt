use Rattle.forbidden_sets.proofs.Firsts.{each-rising, found-ok, order-back, order-to}
use Rattle.forbidden_sets.specs.inner.Families.{IsOther}
use Rattle.requirement_names.specs.declared.named.SetSentence.TheVariants.{Order}
use Rattle.requirement_verdicts.specs.Verdicts.{IsForbidden}
use Rattle.forbidden_sets.proofs.forbidden.small_other.Goals as goal

pub first_other-requires-clause-rising : goal.first_other-requires-clause-rising
first_other-requires-clause-rising c = each-rising c.args.judged.now.system.now c.args.except.now c.event_infos-few.ensures.few c.requires.sets

pub returns-clause-first : goal.returns-clause-first
returns-clause-first c =
    let system = c.args.judged.now.system.now in
    let target = c.args.judged.now.slice.now.target in
    let most = c.min-most.result in
    found-ok system target (IsOther c.args.except.now most) (IsForbidden (Order c.args.least c.args.except.now))
    (order-to system target c.args.least most c.args.except.now c.saturating_sub.result c.events.result c.saturating_sub.ensures c.min-most.ensures c.requires.some)
    (order-back system target c.args.least most c.args.except.now c.saturating_sub.result c.events.result c.saturating_sub.ensures c.min-most.ensures c.events.ensures.count) c.first_other.result c.first_other.ensures.first
