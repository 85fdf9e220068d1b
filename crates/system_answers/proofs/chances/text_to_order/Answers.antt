use Rattle.std.proofs.Common.{◌≡◌, Some, option_copied, subst}
use Rattle.std.proofs.lemmas.Result.{IfOk-weaker}
use Rattle.probability_lines.specs.Gathered.{lines_of}
use Rattle.probability_lines.specs.ProbabilityText.{lines_text}
use Rattle.system_answers.proofs.chances.text_to_order.Goals as goal

pub returns : goal.returns
returns c asked =
    let its = c.in_ok-told.told in
    let has = c.in_ok-told.ensures in
    IfOk-weaker c.text_told.result _ _
    (λ text is. record {
      whole = its.whole;
      wide = has.wide;
      known = has.known;
      are_known = has.are_known;
      bounds = its.bounds;
      importances = its.importances.items;
      told = (has.told, has.alone);
      text_is = subst (λ found. text.items ≡ lines_text c.args.quoted its.whole (lines_of c.args.system.now (option_copied c.args.hours) c.args.part.now.events found (Some c.args.most) its.bounds its.importances.items)) has.found_is is;
    })
    c.text_told.ensures
