use Rattle.std.proofs.Common.{ℕ, All, ◌<◌, ◌∙◌, ap, length, sym, subst}
use Rattle.std.specs.List.{AllByRecursion}
use Rattle.zdd_store.specs.inner.Family.{IsRising}
use Rattle.fault_system.proofs.NumberSets.{RisesWithin-each}
use Rattle.requirement_names.specs.declared.named.SetSentence.TheVariants.{Mixed}
use Rattle.requirement_verdicts.specs.Verdicts.{IsForbidden}
use Rattle.forbidden_sets.specs.inner.Families.{IsOther}
use Rattle.forbidden_sets.proofs.Firsts.{found-ok}
use Rattle.forbidden_sets.proofs.Singles.{inside-back, inside-to, none-inside, singles-of, singles-rise}
use Rattle.forbidden_sets.proofs.forbidden.first_inside.Goals as goal

pub of-requires : goal.of-requires
of-requires c = subst (λ (size : ℕ). All (λ n. n < size) c.args.group.now) (sym c.events-count.ensures.count) (RisesWithin-each 0 (length c.args.judged.now.system.now.events) c.args.group.now c.requires.group)

pub returns-then-not-branch-clause-first : goal.returns-then-not-branch-clause-first
returns-then-not-branch-clause-first c =
    none-inside c.args.judged.now.system.now c.args.judged.now.slice.now.target c.args.group.now c.args.most c.in_ok-events.events c.in_ok-events.ensures.numbers (sym c.in_ok-makes_hold.ensures ∙ c.if-not-branch.true)

pub first_other-requires-clause-rising : goal.first_other-requires-clause-rising
first_other-requires-clause-rising c =
    let part = c.args.judged.now.slice.now in
    let events = c.in_ok-events.events in
    let shown = c.items-parts.ensures.items ∙ c.in_ok-outside.ensures ∙ ap (singles-of events) c.items-needed.ensures.items in
    subst (AllByRecursion IsRising) (sym shown) (singles-rise c.args.judged.now.system.now events part.events c.event_infos-few.ensures.few c.requires.slice.events_rise)

pub returns-clause-first : goal.returns-clause-first
returns-clause-first c =
    let system = c.args.judged.now.system.now in
    let part = c.args.judged.now.slice.now in
    let target = part.target in
    let events = c.in_ok-events.events in
    let parts = c.items-parts.result.now in
    let shown = c.items-parts.ensures.items ∙ c.in_ok-outside.ensures ∙ ap (singles-of events) c.items-needed.ensures.items in
    let numbers = c.in_ok-events.ensures.numbers in
    found-ok system target (IsOther parts c.min-order.result) (IsForbidden (Mixed c.args.group.now c.args.most))
    (inside-to system target part c.args.group.now c.args.most events parts c.events-count.result c.min-order.result c.in_slice.ensures c.requires.slice numbers shown c.unwrap_or.result c.unwrap_or.ensures c.min-order.ensures)
    (inside-back system target part c.args.group.now c.args.most events parts c.events-count.result c.min-order.result c.events-count.ensures.count numbers shown c.unwrap_or.result c.unwrap_or.ensures c.min-order.ensures)
    c.first_other.result c.first_other.ensures.first
