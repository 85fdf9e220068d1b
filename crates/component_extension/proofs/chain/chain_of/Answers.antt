use Rattle.std.proofs.Common.{sym, ap, ◌∙◌, Ok, ◌^◌, arith}
use Rattle.std.proofs.lemmas.Result.{err_from_is_err_and}
use Rattle.component_extension.specs.Chain.{chain_from}
use Rattle.component_extension.proofs.ChainSteps.{walk-ends, walk-goes_on, walk-stops}
use Rattle.component_extension.proofs.chain.chain_of.Goals as goal

pub loop-init : goal.loop-init
loop-init c = ap (λ front. chain_from (2 ^ 64) c.args.index.now front c.args.id) c.new-walked.ensures

pub returns-in_err-next_of : goal.returns-in_err-next_of
returns-in_err-next_of c =
    let p = err_from_is_err_and c.from_residual-in_err-next_of.result c.from_residual-in_err-next_of.ensures.1 in
    rw (p.1, p.2) (walk-stops c.args.index.now c.loop.walked c.in_ok-walked.walked c.loop.next c.loop.counter _ (omega (arith, c.loop-test.true)) c.loop.invariant c.in_ok-walked.ensures c.in_err-next_of.field-0.0 c.in_err-next_of.ensures)

pub returns-in-None : goal.returns-in-None
returns-in-None c =
    walk-ends c.args.index.now c.loop.walked c.in_ok-walked.walked c.loop.next c.loop.counter _ (omega (arith, c.loop-test.true)) c.loop.invariant c.in_ok-walked.ensures (c.in_ok-next_of.ensures ∙ ap Ok c.in-None.is)
    ∙ ap Ok (sym c.ids.ensures)

pub loop-preserved : goal.loop-preserved
loop-preserved c = walk-goes_on c.args.index.now c.loop.walked c.in_ok-walked.walked c.loop.next c.loop.counter _ (omega (arith, c.loop-test.true)) c.loop.invariant c.in_ok-walked.ensures c.in-Some.base (c.in_ok-next_of.ensures ∙ ap Ok c.in-Some.is)
