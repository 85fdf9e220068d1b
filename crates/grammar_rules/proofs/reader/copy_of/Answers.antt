use Rattle.std.proofs.Common.{subst}
use Rattle.aadl_syntax.specs.declared.token.TokenKind.{TokenKind}
use Rattle.aadl_syntax.specs.inner.Token.{IsTokenText}
use Rattle.grammar_rules.proofs.reader.copy_of.Goals as goal

pub of-requires : goal.of-requires
of-requires c = subst (λ (kind : TokenKind). IsTokenText kind c.args.token.now.text.now) c.requires.word c.requires.form
