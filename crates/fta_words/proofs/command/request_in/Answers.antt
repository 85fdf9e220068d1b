use Rattle.std.proofs.lemmas.Result.{IfOk-weaker}
use Rattle.fta_words.specs.Words.{in_full}
use Rattle.fta_words.proofs.Requests.{answers_short}
use Rattle.fta_words.proofs.command.request_in.Goals as goal

pub returns-in-Some : goal.returns-in-Some
returns-in-Some c =
    let short = c.in-Some.ensures in
    IfOk-weaker c.request_of.result _ _
    (λ answer read. answers_short c.args.reports.now (in_full c.args.words.now) c.in-Some.short.kind c.in-Some.short.plain.now short.in_full_is short.plain_words answer read) c.request_of.ensures
