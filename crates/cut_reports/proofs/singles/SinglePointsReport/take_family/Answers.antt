use Rattle.std.proofs.Common.{◌≡◌, ◌∙◌, Bool, List, length, subst, sym, ap, arith}
use Rattle.cut_reports.specs.inner.Singles.{MarkedAll}
use Rattle.cut_reports.proofs.Marks.{marks_taken}
use Rattle.cut_reports.proofs.Numbered.{begun_width}
use Rattle.cut_reports.proofs.singles.SinglePointsReport.take_family.Goals as goal

pub mark_all-requires : goal.mark_all-requires
mark_all-requires c = begun_width _ _ _ c.requires.of_events ∙ sym c.requires.of_singles ∙ sym (ap length c.as_slice.ensures.value)

pub returns-clause-took : goal.returns-clause-took
returns-clause-took c e taken sets are each new =
    let fits : length c.args.counts.now.singles.items ≡ length c.args.self.now.marks.items = c.requires.of_singles ∙ sym (begun_width _ _ _ c.requires.of_events) ∙ c.args.self.now.marks.ok.0 in
    let same : length c.mark_all.new.marks.items ≡ length c.args.self.now.marks.items = omega (arith, c.mark_all.ensures.count, c.mark_all.new.marks.ok.0, c.args.self.now.marks.ok.0) in
    marks_taken c.args.counts.now.singles.items c.args.self.now.marks.items c.mark_all.new.marks.items taken sets fits same
    (subst (λ (l : List Bool). MarkedAll l c.args.self.now.marks.items c.mark_all.new.marks.items) c.as_slice.ensures.value c.mark_all.ensures.marked) are new.of_singles
