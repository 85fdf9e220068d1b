use Rattle.std.proofs.Common.{◌∙◌, [], ap, arith}
use Rattle.std.proofs.lemmas.List.{take_all}
use Rattle.cut_reports.specs.inner.Numbered.{numbered_text}
use Rattle.cut_reports.specs.inner.Singles.{marked_line}
use Rattle.cut_reports.proofs.Numbered.{numbered_next}
use Rattle.cut_reports.proofs.singles.text_of.Goals as goal

pub loop-i-preserved : goal.loop-i-preserved
loop-i-preserved c =
    numbered_next (marked_line c.args.marks.now) 0 c.args.names.now c.loop-i.i c.loop-i.i c.index-names-i.result _ [] _ (omega arith) (omega arith) c.index-names-i.is c.loop-i.invariant c.in_ok-push_marked.ensures

pub returns : goal.returns
returns c =
    c.loop-i.invariant ∙ ap (numbered_text (marked_line c.args.marks.now) 0) (take_all c.loop-i.i c.args.names.now (omega arith))
