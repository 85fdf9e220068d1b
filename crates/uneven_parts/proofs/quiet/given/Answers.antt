use Rattle.std.proofs.Common.{ap, sym, ◌++◌, ◌∙◌}
use Rattle.package_index.proofs.Loops.{numbered-more}
use Rattle.uneven_parts.specs.Quiet.{given_in}
use Rattle.uneven_parts.proofs.quiet.given.Goals as goal

pub loop-number-preserved : goal.loop-number-preserved
loop-number-preserved c =
    let facts = c.args.facts.now in
    let i = c.loop-number.number in
    let fact = c.index-facts-number.result in
    c.in_ok-add_given.ensures ∙ ap (λ front. front ++ given_in c.args.keys.now i fact) c.loop-number.invariant
    ∙ sym (numbered-more (given_in c.args.keys.now) facts i fact c.loop-number-test.true c.index-facts-number.is)
