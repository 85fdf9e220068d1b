use Rattle.std.proofs.Common.{List, ℕ, sym, subst}
use Rattle.aadl_syntax.specs.inner.Token.{IsTokenText}
use Rattle.aadl_syntax.proofs.Marked.{its_own}
use Rattle.aadl_syntax.proofs.token_slice.add_copy.Goals as goal

pub push-requires-clause-form : goal.push-requires-clause-form
push-requires-clause-form c = subst (λ (text : List ℕ). IsTokenText c.args.token.now.kind text) (sym (its_own c.args.token.now.kind c.args.token.now.text.now c.requires.form)) c.requires.form
