use Rattle.std.proofs.Common.{false, length, replicate, take, sym, ap, ◌∙◌}
use Rattle.std.proofs.lemmas.List.{take_more}
use Rattle.error_types.specs.inner.Rows.{row_of}
use Rattle.error_types.proofs.TypeRows.{row-none}
use Rattle.error_types.proofs.reach.row_of_types.Goals as goal

pub loop-number-init : goal.loop-number-init
loop-number-init c = c.in_ok-row.ensures ∙ ap (λ types. replicate (length types) false) c.types.ensures.types ∙ sym (row-none c.args.declarations.now)

pub loop-number-preserved : goal.loop-number-preserved
loop-number-preserved c =
    let types = c.args.types.now in
    let i = c.loop-number.number-index in
    c.join_type.ensures (take i types) c.loop-number.invariant ∙ ap (row_of c.args.declarations.now) (sym (take_more types i 0 c.loop-number-test.true))
