use Rattle.std.proofs.Common.{sym, ◌∙◌, below_more, arith, inl, subst}
use Rattle.std.proofs.lemmas.Bool.{false≢true}
use Rattle.std.proofs.lemmas.Option.{slice_get_within}
use Rattle.phases.specs.Phases.{Stops, answers}
use Rattle.phases.specs.declared.status.Status.TheVariants.{Refused}
use Rattle.system_answers.specs.Targets.{IsFactNamed, LacksTarget}
use Rattle.system_answers.proofs.Targets.{no_target, one_number}
use Rattle.system_answers.proofs.target.find_target.Goals as goal

pub loop-number-preserved : goal.loop-number-preserved
loop-number-preserved c =
    below_more _ _ c.loop-number.invariant (λ named. false≢true (sym c.if-has_name.false ∙ c.has_name.ensures.1 named))

pub returns : goal.returns
returns c =
    let system = c.args.system.now in
    let name = c.args.name.now in
    inl (subst (λ refusal. Stops (answers (IsFactNamed system name) (LacksTarget system name)) (Refused refusal)) (sym c.of_words.ensures)
    (no_target system name (λ number named. c.loop-number.invariant number (omega (arith, slice_get_within _ number named.fact named.there, c.facts-number-end.ensures.count, c.loop-number-test.false)) named)))

pub returns-then-has_name : goal.returns-then-has_name
returns-then-has_name c =
    let has = c.has_name.ensures.0 c.if-has_name.true in
    record { passed = record { has = has; alone = λ other named. one_number c.args.system.now other c.loop-number.number c.args.name.now c.facts-number-end.ensures.system.facts_named named has } }
