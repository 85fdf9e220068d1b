use Rattle.std.proofs.Common.{◌≡◌, ◌∷◌, ◌++◌, ◌+◌, [], List, length, arith, ap, sym, ◌∙◌, refl, subst}
use Rattle.aadl_syntax.specs.inner.Marks.{AreMarks, tokens_at, token_at}
use Rattle.aadl_syntax.specs.declared.tokens.Mark.{Mark}
use Rattle.aadl_syntax.specs.declared.token.Token.{Token}
use Rattle.aadl_syntax.proofs.Marked.{still_marks, same_tokens, is_mark, its_token, one_more, one_token_more, on_err}
use Rattle.aadl_syntax.proofs.tokens.TokenList.push.Goals as goal

pub invariant_of-self : goal.invariant_of-self
invariant_of-self c = still_marks c.in_err-push_text.ensures.grown c.self.invariant (omega arith)

pub returns-in_err-push_text-clause-err : goal.returns-in_err-push_text-clause-err
returns-in_err-push_text-clause-err c = on_err _ (same_tokens c.in_err-push_text.ensures.grown c.self.invariant ∙ c.self.view_is)

pub invariant_of-self-in_err-push : goal.invariant_of-self-in_err-push
invariant_of-self-in_err-push c = subst (λ (marks : List Mark). AreMarks c.push_text.new.text.items marks) (sym c.in_err-push.ensures.items) (still_marks c.in_ok-push_text.ensures.grown c.self.invariant (omega arith))

pub returns-in_err-push-clause-err : goal.returns-in_err-push-clause-err
returns-in_err-push-clause-err c =
    on_err _ (ap (λ (marks : List Mark). tokens_at c.push_text.new.text.items marks) c.in_err-push.ensures.items ∙ same_tokens c.in_ok-push_text.ensures.grown c.self.invariant ∙ c.self.view_is)

pub invariant_of-self-2 : goal.invariant_of-self-2
invariant_of-self-2 c =
    let at_end : c.len-from.result ≡ length c.self.inside.text.items = search in
    let mark : Mark = record { kind = c.args.kind; start = c.args.at; end = c.args.at + length c.args.bytes.now; from = c.len-from.result } in
    let still = still_marks c.in_ok-push_text.ensures.grown c.self.invariant (omega arith) in
    let is = is_mark c.self.inside.text.items c.push_text.new.text.items c.args.kind c.args.bytes.now mark c.in_ok-push_text.ensures.ok refl at_end refl c.requires.form in
    subst (λ (marks : List Mark). AreMarks c.push_text.new.text.items marks) (sym c.in_ok-push.ensures.items) (one_more _ _ mark still is (omega arith))

pub returns-clause-ok : goal.returns-clause-ok
returns-clause-ok c =
    let at_end : c.len-from.result ≡ length c.self.inside.text.items = search in
    let mark : Mark = record { kind = c.args.kind; start = c.args.at; end = c.args.at + length c.args.bytes.now; from = c.len-from.result } in
    ap (λ (marks : List Mark). tokens_at c.push_text.new.text.items marks) c.in_ok-push.ensures.items
    ∙ one_token_more c.push_text.new.text.items c.self.inside.marks.items mark
    ∙ ap (λ (tokens : List Token). tokens ++ token_at c.push_text.new.text.items mark ∷ []) (same_tokens c.in_ok-push_text.ensures.grown c.self.invariant ∙ c.self.view_is)
    ∙ ap (λ (token : Token). c.args.self.now ++ token ∷ []) (its_token c.self.inside.text.items c.push_text.new.text.items c.args.kind c.args.bytes.now mark c.in_ok-push_text.ensures.ok refl at_end refl c.args.at refl)
