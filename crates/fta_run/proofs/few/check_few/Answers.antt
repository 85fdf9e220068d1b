use Rattle.std.proofs.Common.{sym, subst, inl}
use Rattle.phases.specs.Phases.{Stops, tests}
use Rattle.phases.specs.declared.status.Status.TheVariants.{Refused}
use Rattle.phases.specs.inner.Meets.{IsMemory}
use Rattle.phases.proofs.Steps.{meets_later}
use Rattle.fta_run.specs.Due.{within_limits}
use Rattle.fta_run.specs.Files.{NamesTooMany}
use Rattle.fta_run.specs.inner.Read.{few_texts}
use Rattle.fta_run.proofs.Inputs.{few_pass, few_refused}
use Rattle.fta_run.proofs.few.check_few.Goals as goal

pub returns-then-texts-gt-MOST_FILES-clause-tested : goal.returns-then-texts-gt-MOST_FILES-clause-tested
returns-then-texts-gt-MOST_FILES-clause-tested c =
    inl (subst (λ refusal. Stops (few_texts c.args.texts.now) (Refused refusal)) (sym c.of_words.ensures) (few_refused c.args.texts.now c.if-texts-gt-MOST_FILES.true))

pub returns-clause-tested : goal.returns-clause-tested
returns-clause-tested c =
    meets_later IsMemory (λ _. c.args.texts.now) (tests (NamesTooMany c.args.texts.now)) (λ _. within_limits c.args.texts.now) tt c.check_limits.result (λ s memory. memory) (few_pass c.args.texts.now c.if-texts-gt-MOST_FILES.false) c.check_limits.ensures.tested
