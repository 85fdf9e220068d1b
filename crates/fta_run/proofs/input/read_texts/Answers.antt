use Rattle.std.proofs.Common.{◌≡◌, ◌≤◌, [], length, sum_by, sym, subst, inl}
use Rattle.std.proofs.lemmas.List.Elements.{All-from_recursion}
use Rattle.plain_values.specs.Order.{IsFirst}
use Rattle.phases.specs.Phases.{Stops}
use Rattle.phases.specs.declared.status.Status.TheVariants.{Refused}
use Rattle.phases.proofs.Steps.{exits}
use Rattle.fta_run.specs.Due.{texts_of}
use Rattle.fta_run.specs.Files.{HasTooLong, HasTooMuch, most_bytes, most_text, too_long_from}
use Rattle.fta_run.proofs.Inputs.{many_refused, long_refused, much_refused, texts_pass, short_of}
use Rattle.fta_run.proofs.input.read_texts.Goals as goal

pub returns-then-names-gt-MOST_FILES-clause-meets : goal.returns-then-names-gt-MOST_FILES-clause-meets
returns-then-names-gt-MOST_FILES-clause-meets g c =
    let contents = g.F.Files.contents c.args.files.now in
    inl (subst (λ refusal. Stops (texts_of contents c.args.names.now) (Refused refusal)) (sym c.of_words.ensures) (many_refused contents c.args.names.now c.if-names-gt-MOST_FILES.true))

pub returns-in_err-check_each-clause-meets : goal.returns-in_err-check_each-clause-meets
returns-in_err-check_each-clause-meets g c =
    let contents = g.F.Files.contents c.args.files.now in
    let first = subst (λ read. IsFirst (HasTooLong read) c.in_err-check_each.field-0.0) c.items.ensures.items c.in_err-check_each.ensures in
    exits _ _ (texts_of contents c.args.names.now) _ c.from_residual-in_err-check_each.result c.from_residual-in_err-check_each.ensures.1 (inl (long_refused contents c.args.names.now c.in_ok-texts.texts c.in_err-check_each.field-0.0 c.if-names-gt-MOST_FILES.false c.in_ok-texts.ensures.fronts first))

pub returns-in_err-check_total-clause-meets : goal.returns-in_err-check_total-clause-meets
returns-in_err-check_total-clause-meets g c =
    let contents = g.F.Files.contents c.args.files.now in
    let none = subst (λ read. too_long_from 0 read ≡ []) c.items.ensures.items c.in_ok-check_each.ensures in
    let much = subst (λ read. HasTooMuch read c.in_err-check_total.field-0.0) c.items-2.ensures.items c.in_err-check_total.ensures in
    exits _ _ (texts_of contents c.args.names.now) _ c.from_residual-in_err-check_total.result c.from_residual-in_err-check_total.ensures.1 (inl (much_refused contents c.args.names.now c.in_ok-texts.texts c.in_err-check_total.field-0.0 c.if-names-gt-MOST_FILES.false c.in_ok-texts.ensures.fronts none much))

pub invariant_of-result : goal.invariant_of-result
invariant_of-result g c =
    let none = subst (λ read. too_long_from 0 read ≡ []) c.items.ensures.items c.in_ok-check_each.ensures in
    (c.in_ok-texts.ensures.few, All-from_recursion (λ text. length text ≤ most_bytes) c.in_ok-texts.texts (short_of 0 c.in_ok-texts.texts none))

pub returns-clause-meets : goal.returns-clause-meets
returns-clause-meets g c =
    let none = subst (λ read. too_long_from 0 read ≡ []) c.items.ensures.items c.in_ok-check_each.ensures in
    let little = subst (λ read. sum_by length read ≤ most_text) c.items-2.ensures.items c.in_ok-check_total.ensures in
    texts_pass (g.F.Files.contents c.args.files.now) c.args.names.now c.in_ok-texts.texts c.if-names-gt-MOST_FILES.false c.in_ok-texts.ensures.fronts none little
