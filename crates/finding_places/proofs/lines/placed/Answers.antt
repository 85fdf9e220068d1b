use Rattle.std.proofs.Common.{◌≡◌, ◌<◌, List, ℕ, [], ap, ◌∙◌, get_or, length, map, subst, arith}
use Rattle.std.specs.Prelude.{slice_index_or}
use Rattle.std.proofs.lemmas.List.{take_all}
use Rattle.model_review.specs.Lines.{finding_text}
use Rattle.model_review.specs.declared.finding.Finding.{Finding}
use Rattle.finding_places.specs.Lines.{review_line}
use Rattle.finding_places.proofs.Placed.{its-line, lines-more, mapped-at}
use Rattle.finding_places.proofs.lines.placed.Goals as goal

-- not checked: the names of the steps are to be seen by `--start placed --allow-holes`
pub loop-number-preserved : goal.loop-number-preserved
loop-number-preserved c = λ seen numbered all.
    let findings = c.args.reviewed.now.findings in
    let number = c.loop-number.number in
    let finding = c.index-findings-number.result in
    let within : number < length findings = omega (arith, ap length c.items-findings.ensures.items, c.loop-number-test.true) in
    let at : finding ≡ get_or findings number finding = subst (λ (all : List Finding). finding ≡ get_or all number finding) c.items-findings.ensures.items c.index-findings-number.is in
    let text : c.text_at.result.now ≡ finding_text seen finding =
    c.text_at.ensures ∙ ap (λ (texts : List (List ℕ)). slice_index_or texts number []) (c.items-texts.ensures.items ∙ all) ∙ mapped-at (finding_text seen) findings number finding [] within at in
    lines-more seen findings number finding c.in_ok-line.line c.loop-number.lines _ within at (its-line seen _ finding c.text_at.result.now c.in_ok-line.line numbered text c.in_ok-line.ensures)
    (c.loop-number.invariant seen numbered all) c.in_ok-push.ensures.ok

pub returns : goal.returns
returns c = λ seen numbered all.
    let findings = c.args.reviewed.now.findings in
    c.loop-number.invariant seen numbered all ∙ ap (map (review_line seen)) (take_all c.loop-number.number findings (omega (arith, ap length c.items-findings.ensures.items, c.loop-number-test.false)))
