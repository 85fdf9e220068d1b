use Rattle.std.proofs.Common.{◌≡◌, true, nat_le, le-leb, ◌∙◌, sym, subst}
use Rattle.fault_system.specs.Truth.{set_of, truth}
use Rattle.fault_system.specs.declared.formula.FactInfo.{FactInfo}
use Rattle.fault_system.proofs.NumberSets.{member-map}
use Rattle.target_orders.specs.inner.Bounds.{IsMet, count_placed, met_facts}
use Rattle.target_orders.specs.declared.bounds.Bound.{Bound}
use Rattle.target_orders.proofs.lows.is_bound.Goals as goal

pub returns-in-Some : goal.returns-in-Some
returns-in-Some c there set has =
    let places = c.args.places.now in
    let is_so = sym (member-map (λ (f : FactInfo). truth (set_of set) (met_facts places c.args.bounds.now set) f.formula) c.args.system.now.facts c.args.fact c.in-Some.info.now (sym c.in-Some.ensures)) ∙ has in
    let met : IsMet places set c.bound_at.result = c.is_implied.ensures there places set (c.bound_of.ensures set is_so) in
    subst (λ (bound : Bound). nat_le bound.low (count_placed places bound.from bound.to set) ≡ true) c.bound_at.ensures (le-leb _ _ met)
