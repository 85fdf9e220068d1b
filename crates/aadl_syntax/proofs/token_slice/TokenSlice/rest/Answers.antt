use Rattle.std.proofs.Common.{List, ◌≤◌, ◌∙◌, ap, sym, subst, length, drop}
use Rattle.aadl_syntax.specs.declared.token.Token.{Token}
use Rattle.aadl_syntax.proofs.Marked.{between-rest}
use Rattle.aadl_syntax.proofs.token_slice.TokenSlice.rest.Goals as goal

pub returns : goal.returns
returns c =
    between-rest c.self.inside.tokens.now c.self.inside.from c.self.inside.to c.args.count (subst (λ (tokens : List Token). c.args.count ≤ length tokens) (sym c.self.view_is) c.requires)
    ∙ ap (λ (tokens : List Token). drop c.args.count tokens) c.self.view_is
