use Rattle.std.proofs.Common.{List, sym, subst}
use Rattle.round_gates.specs.declared.tree.Input.{Input}
use Rattle.round_gates.specs.declared.node.GateKind.TheVariants as kinds
use Rattle.merged_gates.proofs.InputLaws.{same-is}
use Rattle.merged_gates.proofs.Folds.{Puts, wrapped}
use Rattle.merged_gates.proofs.counting.wrap.Goals as goal

pub returns : goal.returns
returns c =
    wrapped c.args.gates.now c.put.new.gates c.args.stands.now c.args.n c.args.input (same-is _ _ (sym c.if-not-is_alike.ensures))
    (subst (λ (xs : List Input). Puts c.args.gates.now c.put.new.gates c.args.n kinds.Or xs) c.in_ok-inputs.ensures c.put.ensures)
