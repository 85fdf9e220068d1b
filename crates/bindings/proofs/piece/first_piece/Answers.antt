use Rattle.std.proofs.Common.{◌+◌, ◌≡◌, ◌<◌, Bool, false, cond, ap, sym, ◌∙◌, take, length, arith}
use Rattle.aadl_syntax.specs.declared.token.Token.{Token}
use Rattle.aadl_syntax.specs.inner.Token.{shown}
use Rattle.grammar_rules.proofs.Runs.{item_there}
use Rattle.bindings.specs.Pieces.{ends_piece}
use Rattle.bindings.proofs.PieceLoops.{passes, piece_here, tested}
use Rattle.bindings.proofs.piece.first_piece.Goals as goal
use Rattle.bindings.proofs.piece.first_piece.Goals.{then-opens, else-opens, then-closes, else-closes}

pub returns-then-ends-clause-piece : goal.returns-then-ends-clause-piece
returns-then-ends-clause-piece c =
    let p = c.loop-k.invariant in
    let token : Token = shown c.in-Some.token in
    let within : c.loop-k.k < length c.args.tokens.now = let h = c.loop-k-test.true in omega arith in
    let is = item_there c.args.tokens.now c.loop-k.k token c.in-Some.ensures.value in
    piece_here p token within is (sym (tested p token within is) ∙ sym c.if-ends.ensures)

pub loop-k-preserved : goal.loop-k-preserved
loop-k-preserved c =
    let p = c.loop-k.invariant in
    let token : Token = shown c.in-Some.token in
    let within : c.loop-k.k < length c.args.tokens.now = let h = c.loop-k-test.true in omega arith in
    let is = item_there c.args.tokens.now c.loop-k.k token c.in-Some.ensures.value in
    let f : ends_piece (take c.loop-k.k c.args.tokens.now) token ≡ false = sym (tested p token within is) ∙ sym c.if-ends.ensures in
    let opened = λ (b : Bool). cond b (c.loop-k.opened + 1) c.loop-k.opened in
    let closed = λ (b : Bool). cond b (c.loop-k.closed + 1) c.loop-k.closed in
    passes p token within is f c.if-opens.opened c.if-closes.closed
    (elim c.if-opens.branch [ then-opens w ↦ w.opened-is ∙ ap opened w.if-opens.ensures | else-opens w ↦ w.opened-is ∙ ap opened w.if-opens.ensures ])
    (elim c.if-closes.branch [ then-closes w ↦ w.closed-is ∙ ap closed w.if-closes.ensures | else-closes w ↦ w.closed-is ∙ ap closed w.if-closes.ensures ])
