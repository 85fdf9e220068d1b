use Rattle.std.proofs.Common.{◌∙◌, ◌+◌, ◌≡◌, ◌<◌, Bool, false, cond, ap, sym, take, length, arith}
use Rattle.aadl_syntax.specs.declared.token.Token.{Token}
use Rattle.aadl_syntax.specs.inner.Token.{shown}
use Rattle.grammar_rules.specs.Spans.{stopping}
use Rattle.grammar_rules.proofs.Runs.{stops_here, tested, passes, item_there, is_there}
use Rattle.grammar_rules.proofs.span.length_until.Goals as goal
use Rattle.grammar_rules.proofs.span.length_until.Goals.{then-opens, else-opens, then-closes, else-closes}

pub returns-in_default-clause-run : goal.returns-in_default-clause-run
returns-in_default-clause-run g c = λ unseen.
    let within : c.loop-k.k < length c.args.tokens.now = let h = c.loop-k-test.true in omega arith in
    absurd (is_there c.args.tokens.now c.loop-k.k within c.in_default.ensures.value)

pub returns-then-stops-clause-run : goal.returns-then-stops-clause-run
returns-then-stops-clause-run g c = λ unseen.
    let p = c.loop-k.invariant in
    let token : Token = shown c.in-Some.token in
    let within : c.loop-k.k < length c.args.tokens.now = let h = c.loop-k-test.true in omega arith in
    let is = item_there c.args.tokens.now c.loop-k.k token c.in-Some.ensures.value in
    p.so_far unseen ∙ stops_here c.args.tokens.now c.loop-k.k token within is (stopping c.args.inside g.S.Span.stops) unseen (sym (tested p token) ∙ sym c.if-stops.ensures)

pub loop-k-preserved : goal.loop-k-preserved
loop-k-preserved g c =
    let p = c.loop-k.invariant in
    let token : Token = shown c.in-Some.token in
    let within : c.loop-k.k < length c.args.tokens.now = let h = c.loop-k-test.true in omega arith in
    let is = item_there c.args.tokens.now c.loop-k.k token c.in-Some.ensures.value in
    let f : stopping c.args.inside g.S.Span.stops (take c.loop-k.k c.args.tokens.now) token ≡ false = sym (tested p token) ∙ sym c.if-stops.ensures in
    let opened = λ (b : Bool). cond b (c.loop-k.opened + 1) c.loop-k.opened in
    let closed = λ (b : Bool). cond b (c.loop-k.closed + 1) c.loop-k.closed in
    passes p token within is f c.if-opens.opened c.if-closes.closed
    (elim c.if-opens.branch [ then-opens w ↦ w.opened-is ∙ ap opened w.if-opens.ensures | else-opens w ↦ w.opened-is ∙ ap opened w.if-opens.ensures ])
    (elim c.if-closes.branch [ then-closes w ↦ w.closed-is ∙ ap closed w.if-closes.ensures | else-closes w ↦ w.closed-is ∙ ap closed w.if-closes.ensures ])
