use Rattle.std.proofs.Common.{refl}
use Rattle.zdd_store.specs.inner.Store.{family_of}
use Rattle.cut_reports.proofs.Chains.{marks_of}
use Rattle.cut_reports.proofs.diagram.singles_of.Goals as goal

pub returns-clause-marks : goal.returns-clause-marks
returns-clause-marks c =
    marks_of c.of_size.new.store c.in-Ok-of_size.part (family_of c.args.store.now c.args.family) c.mark_each.new.marks.items c.in-Ok-of_size.ensures.family
    (c.if-not-mark_each.ensures.marks refl c.in-Ok.ensures.marks)
