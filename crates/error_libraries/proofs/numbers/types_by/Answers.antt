use Rattle.std.proofs.Common.{◌++◌, sym, ◌∙◌}
use Rattle.package_index.proofs.Loops.{numbered-more}
use Rattle.error_libraries.specs.Libraries.{types_in}
use Rattle.error_libraries.proofs.numbers.types_by.Goals as goal

pub loop-number-preserved : goal.loop-number-preserved
loop-number-preserved c =
    c.in_ok-add_types.ensures ∙ (λ i. c.loop-number.invariant i ++ types_in c.args.each c.loop-number.number (c.items.ensures.items i))
    ∙ sym (numbered-more (λ number library. types_in c.args.each number library.items) c.args.libraries.now c.loop-number.number c.index-libraries-number.result c.loop-number-test.true c.index-libraries-number.is)
