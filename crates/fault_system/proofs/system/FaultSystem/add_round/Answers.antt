use Rattle.std.proofs.Common.{◌≡◌, ◌<◌, ◌≤◌, List, length, Some, subst, sym, ◌∙◌, refl, arith}
use Rattle.std.specs.Prelude.{slice_get}
use Rattle.std.proofs.lemmas.Option.{slice_get_read}
use Rattle.fault_system.specs.Truth.{member}
use Rattle.fault_system.specs.declared.formula.FactInfo.{FactInfo}
use Rattle.fault_system.proofs.NextRound.{next-none, next-there, next-false, next-true, next-all}
use Rattle.fault_system.proofs.system.FaultSystem.add_round.Goals as goal
use Rattle.fault_system.proofs.system.FaultSystem.add_round.Goals.{then-times-number-eq0+then-is_true_within, else-times-number-eq0, else-times-number-eq0-via-then-times-number-eq0+else-is_true_within, else-times-number-eq0-via-else-times-number-eq0}

pub loop-number-init : goal.loop-number-init
loop-number-init c = next-none _ _ _ _ c.requires.so_far

pub loop-number-preserved : goal.loop-number-preserved
loop-number-preserved c =
    let system = c.args.self.now in
    let events = member c.args.events.now in
    let at : slice_get system.facts c.loop-number.number ≡ Some c.fact-item.result =
    rw (sym c.fact_infos-fact-items.ensures.facts) (slice_get_read _ _ _ _ refl c.loop-number-test.true c.fact-item.is) in
    let fits : c.loop-number.number < length c.loop-number.times =
    let items : c.loop-number.number < length system.facts = subst (λ (facts : List FactInfo). c.loop-number.number < length facts) c.fact_infos-fact-items.ensures.facts c.loop-number-test.true in
    omega (arith, items, c.loop-number.invariant.size, c.requires.so_far.count) in
    elim c.if-times-number-eq0.branch [
      | then-times-number-eq0+then-is_true_within w ↦ rw w.times-is
          (next-true system events c.args.times.now c.args.round c.requires.so_far c.loop-number.times c.loop-number.number c.fact-item.result at c.loop-number.invariant fits w.if-times-number-eq0.true (sym w.is_true_within.ensures ∙ w.if-is_true_within.true))
      | else-times-number-eq0 w ↦ rw w.times-is (elim w.else-times-number-eq0.branch [
        | else-times-number-eq0-via-then-times-number-eq0+else-is_true_within w' ↦
            next-false system events c.args.times.now c.args.round c.requires.so_far c.loop-number.times c.loop-number.number c.fact-item.result at c.loop-number.invariant w'.if-times-number-eq0.true (sym w'.is_true_within.ensures ∙ w'.if-is_true_within.false)
        | else-times-number-eq0-via-else-times-number-eq0 w' ↦
            next-there system events c.args.times.now c.args.round c.requires.so_far c.loop-number.times c.loop-number.number c.fact-item.result at c.loop-number.invariant w'.if-times-number-eq0.false
      ])
    ]

pub returns : goal.returns
returns c =
    let all : length c.args.self.now.facts ≤ c.loop-number.number = subst (λ (facts : List FactInfo). length facts ≤ c.loop-number.number) c.fact_infos-fact-items.ensures.facts c.loop-number-test.false in
    next-all c.args.self.now (member c.args.events.now) c.args.times.now c.args.round c.requires.so_far c.loop-number.times c.loop-number.number all c.loop-number.invariant
