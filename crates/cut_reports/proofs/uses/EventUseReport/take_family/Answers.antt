use Rattle.std.proofs.Common.{◌≡◌, ◌∙◌, List, ℕ, length, subst, sym, ap, arith}
use Rattle.fta_outside.specs.Counts.{has_event}
use Rattle.cut_reports.specs.inner.Counts.{AddedAll}
use Rattle.cut_reports.proofs.Counts.{counts_taken}
use Rattle.cut_reports.proofs.Numbered.{begun_width}
use Rattle.cut_reports.proofs.uses.EventUseReport.take_family.Goals as goal

pub add_all-requires : goal.add_all-requires
add_all-requires c = begun_width _ _ _ c.requires.of_events ∙ sym (ap length c.as_slice.ensures.value)

pub returns-clause-took : goal.returns-clause-took
returns-clause-took c e taken sets are each new =
    let fits : length c.args.counts.now.uses.items ≡ length c.args.self.now.counts.items = sym (begun_width _ _ _ c.requires.of_events) ∙ c.args.self.now.counts.ok.0 in
    let same : length c.add_all.new.counts.items ≡ length c.args.self.now.counts.items = omega (arith, c.add_all.ensures.count, c.add_all.new.counts.ok.0, c.args.self.now.counts.ok.0) in
    counts_taken has_event c.args.counts.now.uses.items c.args.self.now.counts.items c.add_all.new.counts.items taken sets fits same
    (subst (λ (l : List ℕ). AddedAll l c.args.self.now.counts.items c.add_all.new.counts.items) c.as_slice.ensures.value c.add_all.ensures.added) are new.of_events
