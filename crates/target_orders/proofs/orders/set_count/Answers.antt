use Rattle.std.proofs.Common.{ℕ, ◌<◌, List, length, sym, subst, ◌∙◌, arith}
use Rattle.std.proofs.lemmas.Bool.{ltb-true}
use Rattle.fault_system.specs.CutSets.{IsCutSet}
use Rattle.target_orders.proofs.Reached.{some-within, within-more}
use Rattle.target_orders.proofs.orders.set_count.Goals as goal

pub returns-then-is_known : goal.returns-then-is_known
returns-then-is_known c =
    let some = ltb-true 0 _ (sym c.is_known.ensures ∙ c.if-is_known.true) in (
      c.set_at-set.result.now,
      subst (IsCutSet c.args.system.now c.args.fact) (sym c.set_at-set.ensures.set) (c.requires.cuts c.args.fact (subst (λ (set : List ℕ). 0 < length set) c.set_at-set.ensures.set some)),
      omega (arith, c.count_of.ensures),
    )

pub returns : goal.returns
returns c =
    within-more c.args.system.now c.args.fact (length c.args.system.now.events) c.events.result (omega (arith, c.events.ensures.count)) (some-within c.args.system.now c.args.fact c.requires.perhaps)
