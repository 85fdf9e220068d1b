use Rattle.std.proofs.Common.{List, [], ℕ, drop, sym, subst, zero-add}
use Rattle.std.proofs.lemmas.Result.{err_from_is_err_and}
use Rattle.std.proofs.lemmas.List.{take_rest}
use Rattle.aadl_syntax.specs.declared.token.Token.{Token}
use Rattle.aadl_lexer.specs.Tokens.{InCore, Tokens}
use Rattle.aadl_lexer.specs.inner.Steps.{Takes}
use Rattle.aadl_lexer.proofs.Cuts.{more_so_far, all_so_far}
use Rattle.aadl_lexer.proofs.Single.{one_list, no_refusal, refused_there}
use Rattle.aadl_lexer.proofs.lexer.tokens.Goals as goal

pub loop-at-preserved : goal.loop-at-preserved
loop-at-preserved c =
    let so_far = c.loop-at.invariant in
    let takes = subst (λ (x : List ℕ). Takes (InCore c.loop-at.list c.loop-at.at) x c.loop-at.list c.core_piece.new.list c.in_ok-at.field-0) (take_rest c.args.bytes.now c.loop-at.at) c.in_ok-at.ensures.ok in
    let before = subst (λ (b : List Token). Takes (InCore b c.loop-at.at) (drop c.loop-at.at c.args.bytes.now) c.loop-at.list c.core_piece.new.list c.in_ok-at.field-0) so_far.added takes in
    let placed = subst (λ (n : ℕ). Takes (InCore so_far.tokens n) (drop c.loop-at.at c.args.bytes.now) c.loop-at.list c.core_piece.new.list c.in_ok-at.field-0) (sym (zero-add c.loop-at.at)) before in
    more_so_far InCore 0 c.args.bytes.now [] c.loop-at.list c.core_piece.new.list c.loop-at.at c.in_ok-at.field-0 so_far placed

pub returns-clause-only : goal.returns-clause-only
returns-clause-only c = λ list h.
    let all = all_so_far InCore 0 c.args.bytes.now [] c.loop-at.list c.loop-at.at c.loop-at.invariant c.loop-at-test.false in
    one_list c.args.bytes.now c.loop-at.list list (subst (Tokens c.args.bytes.now) (sym all.added) all.read) h

pub returns-in_err-at-clause-refused : goal.returns-in_err-at-clause-refused
returns-in_err-at-clause-refused c =
    let p = err_from_is_err_and c.from_residual.result c.from_residual.ensures.1 in
    rw (p.1, p.2) (refused_there c.args.file c.args.bytes.now c.loop-at.list c.loop-at.at c.loop-at.invariant _ c.in_err-at.ensures.err)

pub returns-in_err-at-clause-only : goal.returns-in_err-at-clause-only
returns-in_err-at-clause-only c = λ list h.
    let p = err_from_is_err_and c.from_residual.result c.from_residual.ensures.1 in
    rw (p.1, p.2) (no_refusal c.args.file c.args.bytes.now _ (refused_there c.args.file c.args.bytes.now c.loop-at.list c.loop-at.at c.loop-at.invariant _ c.in_err-at.ensures.err) list h)
