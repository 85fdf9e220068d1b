use Rattle.std.proofs.Common.{ap, sym, ◌++◌, ◌∙◌}
use Rattle.package_index.proofs.Loops.{numbered-more}
use Rattle.uneven_parts.specs.Unlike.{unlike_in}
use Rattle.uneven_parts.proofs.unlike.all_unlike.Goals as goal

pub loop-number-preserved : goal.loop-number-preserved
loop-number-preserved c =
    let facts = c.args.facts.now in
    let i = c.loop-number.number in
    let fact = c.index-facts-number.result in
    c.in_ok-add_in.ensures ∙ ap (λ front. front ++ unlike_in c.args.parts.now c.args.system.now c.args.keys.now i fact) c.loop-number.invariant
    ∙ sym (numbered-more (unlike_in c.args.parts.now c.args.system.now c.args.keys.now) facts i fact c.loop-number-test.true c.index-facts-number.is)
