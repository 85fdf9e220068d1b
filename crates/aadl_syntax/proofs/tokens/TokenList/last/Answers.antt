use Rattle.std.proofs.Common.{◌≡◌, length, ◌-◌, arith}
use Rattle.aadl_syntax.proofs.Marked.{last_of}
use Rattle.aadl_syntax.proofs.tokens.TokenList.last.Goals as goal

pub returns : goal.returns
returns c = let e : c.saturating_sub.result ≡ length c.args.self.now - 1 = omega arith in last_of c.args.self.now c.saturating_sub.result c.get.result e c.get.ensures.value
