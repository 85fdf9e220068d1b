use Rattle.std.proofs.Common.{ℕ, ◌≡◌, ◌<◌, List, length, slice_index_or, All, ap, sym, subst, arith}
use Rattle.std.proofs.lemmas.List.Elements.{All-get_or}
use Rattle.zdd_store.specs.inner.Store.{IsIn}
use Rattle.zdd_store.specs.declared.id.Id.{Id}
use Rattle.cutset_engine.specs.inner.Filling.{IsFilled}
use Rattle.cutset_engine.proofs.Ending.{exact-made, target-fact}
use Rattle.cutset_engine.proofs.families.family_by.Goals as goal

pub number_at-number-requires : goal.number_at-number-requires
number_at-number-requires c =
    let fits = target-fact c.args.asked.now.system.now c.args.asked.now.slice.now.target c.args.asked.now.slice.now c.requires in
    let long = ap length c.as_slice.ensures.value in
    omega (arith, fits, long, c.in_ok-now.ensures.filled.filling.size)

pub least_family-requires : goal.least_family-requires
least_family-requires c =
    let fits : c.args.asked.now.slice.now.target < length c.as_slice.result.now = omega (arith, target-fact c.args.asked.now.system.now c.args.asked.now.slice.now.target c.args.asked.now.slice.now c.requires, ap length c.as_slice.ensures.value, c.in_ok-now.ensures.filled.filling.size) in
    let all : All (IsIn c.families.new.store) c.as_slice.result.now = subst (All (IsIn c.families.new.store)) (sym c.as_slice.ensures.value) c.in_ok-now.ensures.filled.filling.found in
    subst (IsIn c.families.new.store) (sym c.number_at-number.ensures) (All-get_or (IsIn c.families.new.store) c.as_slice.result.now c.args.asked.now.slice.now.target c.number_at-number.result fits all)

pub returns-clause-exact : goal.returns-clause-exact
returns-clause-exact c =
    let fits : c.args.asked.now.slice.now.target < length c.in_ok-now.now.items = omega (arith, target-fact c.args.asked.now.system.now c.args.asked.now.slice.now.target c.args.asked.now.slice.now c.requires, c.in_ok-now.ensures.filled.filling.size) in
    exact-made c.args.asked.now.system.now c.args.asked.now.slice.now.target c.args.asked.now.slice.now c.args.asked.now.most c.in_ok-order.order.events c.in_ok-order.order.variables c.families.new.store c.in_ok-now.now.items c.number_at-number.result c.variables.ensures.inverse
    c.events-events.ensures.system (omega (arith, c.events-events.ensures.count)) c.requires
    (subst (λ (table : List ℕ). IsFilled (record { system = c.args.asked.now.system.now; order = table; most = c.args.asked.now.most }) c.args.asked.now.slice.now.facts c.families.new.store c.in_ok-now.now.items) c.variables.ensures.variables c.in_ok-now.ensures.filled) fits
    (subst (λ (ids : List Id). c.number_at-number.result ≡ slice_index_or ids c.args.asked.now.slice.now.target c.number_at-number.result) c.as_slice.ensures.value c.number_at-number.ensures)
    c.least_family.new.store c.in_event_order.new.store c.in_ok-inner.inner c.in_ok-answer.answer c.in_ok-inner.ensures.least c.laws.ensures c.in_ok-answer.ensures.found c.in_ok-answer.ensures.sets
