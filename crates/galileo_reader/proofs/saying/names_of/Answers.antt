use Rattle.std.proofs.Common.{◌+◌, ◌++◌, ◌∷◌, [], ◌∙◌, ap, sym, drop, arith}
use Rattle.galileo_reader.specs.Statements.{names_of}
use Rattle.galileo_reader.proofs.NameLists.{behind, names-all, names-next, names-none}
use Rattle.galileo_reader.proofs.saying.names_of.Goals as goal

pub returns-then-not-is_name : goal.returns-then-not-is_name
returns-then-not-is_name c = names-none c.args.text.now c.args.marks.now c.loop-mark.mark-index c.loop-mark.names c.loop-mark.invariant _ c.loop-mark-test.true (sym c.is_name.ensures ∙ c.if-not-is_name.true)

pub loop-mark-preserved : goal.loop-mark-preserved
loop-mark-preserved c =
    ap (λ names. behind names (names_of c.args.text.now (drop (c.loop-mark.mark-index + 1) c.args.marks.now))) (c.in_ok-push.ensures.ok ∙ ap (λ name. c.loop-mark.names ++ name ∷ []) c.in_ok-placed.ensures)
    ∙ names-next c.args.text.now c.args.marks.now c.loop-mark.mark-index c.loop-mark.names c.loop-mark.invariant _ c.loop-mark-test.true (sym c.is_name.ensures ∙ c.if-not-is_name.false)

pub returns : goal.returns
returns c = names-all c.args.text.now c.args.marks.now c.loop-mark.mark-index c.loop-mark.names c.loop-mark.invariant (omega (arith, c.loop-mark-test.false))
