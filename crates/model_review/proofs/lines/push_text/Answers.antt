use Rattle.std.proofs.Common.{◌≡◌, ◌++◌, codes, sym, subst}
use Rattle.std.specs.Prelude.{OnOk}
use Rattle.model_facts.specs.Assembly.{Assembly}
use Rattle.model_review.specs.Lines.{finding_text, flow_text, side_text, types_text}
use Rattle.model_review.specs.declared.finding.Finding.{Finding}
use Rattle.model_review.proofs.lines.push_text.Goals as goal

pub returns-in-HiddenSource : goal.returns-in-HiddenSource
returns-in-HiddenSource c =
    let text = c.args.text.now.items in
    subst (λ (f : Finding). OnOk c.push_flow_at.result (c.push_flow_at.new.text.items ≡ text ++ finding_text c.args.view.now f)) (sym c.in-HiddenSource.is)
    (subst (λ (a : Assembly). OnOk c.push_flow_at.result (c.push_flow_at.new.text.items ≡ text ++ (codes "hidden-source " ++ (flow_text a c.in-HiddenSource.owner c.in-HiddenSource.flow ++ (codes " at " ++ types_text a c.in-HiddenSource.at)))))
    c.assembly-assembly.ensures c.push_flow_at.ensures)

pub returns-in-StopsHere : goal.returns-in-StopsHere
returns-in-StopsHere c =
    let text = c.args.text.now.items in
    subst (λ (f : Finding). OnOk c.push_at.result (c.push_at.new.text.items ≡ text ++ finding_text c.args.view.now f)) (sym c.in-StopsHere.is)
    (subst (λ (a : Assembly). OnOk c.push_at.result (c.push_at.new.text.items ≡ text ++ (codes "stops-here " ++ types_text a c.in-StopsHere.at))) c.assembly-assembly.ensures c.push_at.ensures)

pub returns-in-SinkLeaves : goal.returns-in-SinkLeaves
returns-in-SinkLeaves c =
    let text = c.args.text.now.items in
    subst (λ (f : Finding). OnOk c.push_at-in-SinkLeaves.result (c.push_at-in-SinkLeaves.new.text.items ≡ text ++ finding_text c.args.view.now f)) (sym c.in-SinkLeaves.is)
    (subst (λ (a : Assembly). OnOk c.push_at-in-SinkLeaves.result (c.push_at-in-SinkLeaves.new.text.items ≡ text ++ (codes "sink-leaves " ++ types_text a c.in-SinkLeaves.at))) c.assembly-assembly.ensures c.push_at-in-SinkLeaves.ensures)

pub returns-in-GoesNowhere : goal.returns-in-GoesNowhere
returns-in-GoesNowhere c =
    let text = c.args.text.now.items in
    subst (λ (f : Finding). OnOk c.push_at-in-GoesNowhere.result (c.push_at-in-GoesNowhere.new.text.items ≡ text ++ finding_text c.args.view.now f)) (sym c.in-GoesNowhere.is)
    (subst (λ (a : Assembly). OnOk c.push_at-in-GoesNowhere.result (c.push_at-in-GoesNowhere.new.text.items ≡ text ++ (codes "goes-nowhere " ++ types_text a c.in-GoesNowhere.at))) c.assembly-assembly.ensures c.push_at-in-GoesNowhere.ensures)

pub returns-in-NoSource : goal.returns-in-NoSource
returns-in-NoSource c =
    let text = c.args.text.now.items in
    subst (λ (f : Finding). OnOk c.push_side_at.result (c.push_side_at.new.text.items ≡ text ++ finding_text c.args.view.now f)) (sym c.in-NoSource.is)
    (subst (λ (a : Assembly). OnOk c.push_side_at.result (c.push_side_at.new.text.items ≡ text ++ (codes "no-source " ++ side_text a c.in-NoSource.side))) c.assembly-assembly.ensures c.push_side_at.ensures)
