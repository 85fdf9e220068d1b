use Rattle.std.proofs.Common.{length}
use Rattle.std.specs.Prelude.{codes, decimal}
use Rattle.std.proofs.lemmas.Result.{on_ok_weaker}
use Rattle.requirement_lines.specs.Lines.{tap_lines}
use Rattle.requirement_lines.proofs.Tests.{plan-then}
use Rattle.requirement_lines.proofs.tap.push_tap.Goals as goal

pub returns : goal.returns
returns c =
    let judgements = c.args.judgements.now in
    on_ok_weaker c.push_tests.result
    (λ told.
    plan-then c.args.text.now.items (codes "TAP version 13\n1..") (decimal (length judgements)) (tap_lines c.args.system.now 1 judgements) c.push_count.new.text.items c.push.new.self.items c.push_tests.new.text.items
    c.in_ok-push_count.ensures c.in_ok-push.ensures.items told)
    c.push_tests.ensures
