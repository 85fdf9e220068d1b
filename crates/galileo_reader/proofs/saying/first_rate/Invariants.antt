use Rattle.std.proofs.Common.{◌≡◌, drop}
use Rattle.galileo_reader.specs.Nodes.{first_some}
use Rattle.galileo_reader.specs.Statements.{rate_in}
use Rattle.galileo_reader.proofs.saying.first_rate.Given as goal

abbrev pub invariant-loop-mark : goal.invariant-loop-mark
invariant-loop-mark l = first_some (λ mark. rate_in l.text mark mark.token) (drop l.mark-index l.marks) ≡ first_some (λ mark. rate_in l.text mark mark.token) l.marks
