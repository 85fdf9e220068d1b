use Rattle.std.proofs.Common.{◌∙◌, ◌≡◌, [], ◌+◌, sym, ap, length, arith}
use Rattle.std.specs.Prelude.{if◌then◌else◌}
use Rattle.cut_reports.specs.inner.Numbered.{numbered_text}
use Rattle.cut_reports.specs.inner.Singles.{marked_line, single_line}
use Rattle.fta_outside.specs.Counts.{is_single}
use Rattle.cut_reports.proofs.Numbered.{begun_width, numbered_same}
use Rattle.cut_reports.proofs.Marks.{marked_right}
use Rattle.cut_reports.proofs.singles.SinglePointsReport.finish.Goals as goal

pub text_of-requires : goal.text_of-requires
text_of-requires c = ap length c.as_slice.ensures.value ∙ sym c.args.self.now.marks.ok.0 ∙ begun_width _ _ _ c.requires

pub returns-in-Ok-clause-text : goal.returns-in-Ok-clause-text
returns-in-Ok-clause-text c sets are =
    let count : length c.args.self.now.marks.items ≡ length c.args.names.now = sym c.args.self.now.marks.ok.0 ∙ begun_width _ _ _ c.requires in
    c.in-Ok.ensures ∙ ap (λ marks. numbered_text (marked_line marks) 0 c.args.names.now) c.as_slice.ensures.value
    ∙ numbered_same (marked_line c.args.self.now.marks.items) (λ event name. if is_single sets event then single_line name else []) 0 c.args.names.now
    (λ n h name. marked_right sets c.args.self.now.marks.items are (0 + n) name (omega (arith, h, count)))
