use Rattle.std.proofs.Common.{◌≡◌, ◌∙◌, sym, ap, length}
use Rattle.cut_reports.specs.inner.Numbered.{numbered_text}
use Rattle.cut_reports.specs.inner.Uses.{counted_use}
use Rattle.cut_reports.proofs.Numbered.{begun_width}
use Rattle.cut_reports.proofs.UseLaws.{uses_right}
use Rattle.cut_reports.proofs.uses.EventUseReport.finish.Goals as goal

pub text_of-requires : goal.text_of-requires
text_of-requires c = ap length c.as_slice.ensures.value ∙ sym c.args.self.now.counts.ok.0 ∙ begun_width _ _ _ c.requires

pub returns-in-Ok-clause-text : goal.returns-in-Ok-clause-text
returns-in-Ok-clause-text c sets are =
    let count : length c.args.self.now.counts.items ≡ length c.args.names.now = sym c.args.self.now.counts.ok.0 ∙ begun_width _ _ _ c.requires in
    c.in-Ok.ensures ∙ ap (λ counts. numbered_text (counted_use counts) 0 c.args.names.now) c.as_slice.ensures.value ∙ uses_right c.args.self.now.counts.items sets c.args.names.now count are
