use Rattle.std.proofs.Common.{◌+◌, false, List, ℕ, subst}
use Rattle.std.proofs.lemmas.List.{take_rest}
use Rattle.aadl_lexer.specs.Tokens.{InAnnex, IsPlain}
use Rattle.aadl_lexer.specs.inner.Steps.{Takes}
use Rattle.aadl_lexer.proofs.Cuts.{more_so_far, none_so_far}
use Rattle.aadl_lexer.proofs.lexer.annex_tokens.Goals as goal

pub loop-done-init : goal.loop-done-init
loop-done-init c = none_so_far InAnnex c.args.at c.args.text.now c.args.list.now

pub loop-done-preserved : goal.loop-done-preserved
loop-done-preserved c =
    let takes = subst (λ (x : List ℕ). Takes (IsPlain false (c.args.at + c.loop-done.done)) x c.loop-done.list c.annex_piece.new.list c.in_ok-done.field-0) (take_rest c.args.text.now c.loop-done.done) c.in_ok-done.ensures.ok in
    more_so_far InAnnex c.args.at c.args.text.now c.args.list.now c.loop-done.list c.annex_piece.new.list c.loop-done.done c.in_ok-done.field-0 c.loop-done.invariant takes
