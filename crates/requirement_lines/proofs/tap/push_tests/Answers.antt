use Rattle.std.proofs.Common.{◌++◌, arith}
use Rattle.requirement_lines.specs.Lines.{tap_lines}
use Rattle.requirement_lines.proofs.Tests.{tests-end, tests-more}
use Rattle.requirement_lines.proofs.tap.push_tests.Goals as goal

pub loop-place-preserved : goal.loop-place-preserved
loop-place-preserved c =
    tests-more c.args.system.now c.args.judgements.now c.loop-place.place c.index-judgements-place.result c.loop-place-test.true c.index-judgements-place.is c.loop-place.text.items c.push_test.new.text.items
    (c.args.text.now.items ++ tap_lines c.args.system.now 1 c.args.judgements.now) c.in_ok-push_test.ensures c.loop-place.invariant

pub returns : goal.returns
returns c =
    let past = c.loop-place-test.false in
    tests-end c.args.system.now c.args.judgements.now c.loop-place.place c.loop-place.text.items (c.args.text.now.items ++ tap_lines c.args.system.now 1 c.args.judgements.now) (omega (arith, past)) c.loop-place.invariant
