use Rattle.std.proofs.Common.{ℕ, ◌∙◌, sym, subst}
use Rattle.fault_system.specs.Truth.{member, truth}
use Rattle.fault_system.specs.Systems.{IsFact}
use Rattle.fault_system.specs.Rounds.{no_event, only, time_of}
use Rattle.fault_system.specs.declared.formula.FactInfo.{FactInfo}
use Rattle.fmea_rows.specs.inner.Columns.{IsPass, Spreads, with_one}
use Rattle.fmea_rows.proofs.ColumnLaws.{sure-more}
use Rattle.fmea_rows.proofs.columns.spread_by.Goals as goal

pub returns-in-Some : goal.returns-in-Some
returns-in-Some c =
    let system = c.args.system.now in
    let way = c.args.way.now in
    let held = member way.held.now in
    let near : ℕ → ℕ = time_of way.facts.now in
    let first : ℕ → ℕ = time_of way.events.now in
    let fact : FactInfo = c.in-Some.fact.now in
    let at : IsFact system c.args.number fact = sym c.in-Some.ensures in
    sure-more system c.args.effect near first c.args.number fact held way.latest c.args.sure.now c.spread.new.sure at (sym c.has.ensures ∙ c.if-not-has.false)
    (subst (λ (d : ℕ). IsPass system held d way.latest) c.requires.distance c.requires.pass) c.requires.sure
    (subst (λ (d : ℕ). Spreads near first d way.latest (λ n. truth no_event (with_one held n) fact.formula) (λ n. truth (only n) held fact.formula) c.args.sure.now c.spread.new.sure) c.requires.distance c.spread.ensures)
