use Rattle.std.proofs.Common.{List, sym, subst}
use Rattle.std.proofs.lemmas.Result.{IfOk-weaker}
use Rattle.round_gates.specs.declared.tree.Gate.{Gate}
use Rattle.merged_gates.specs.inner.Solutions.{KeepsTop}
use Rattle.merged_gates.specs.inner.Tests.{IsRanked}
use Rattle.merged_gates.proofs.Merges.{all-stay, same-top}
use Rattle.merged_gates.proofs.Settled.{settled, well-made}
use Rattle.merged_gates.proofs.merging.merged.Goals as goal

pub returns-then-ranked-clause-made : goal.returns-then-ranked-clause-made
returns-then-ranked-clause-made c =
    IfOk-weaker c.finished.result _ _ (λ tree m. well-made c.args.system.now c.args.tree.now.gates c.as_slice.result.now c.in_ok-left.left.top tree m) c.finished.ensures

pub returns-then-ranked-clause-gates : goal.returns-then-ranked-clause-gates
returns-then-ranked-clause-gates c =
    let ranks : IsRanked c.args.tree.now = c.in_ok-ranked.ensures c.if-ranked.true in
    let keeps = subst (λ (gates : List Gate). KeepsTop c.args.tree.now.gates c.args.tree.now.top gates c.in_ok-left.left.top) (sym c.as_slice.ensures.value) c.in_ok-left.ensures.top in
    IfOk-weaker c.finished.result _ _ (λ tree m. all-stay c.args.system.now c.args.tree.now c.as_slice.result.now c.in_ok-left.left.top tree ranks keeps m) c.finished.ensures

pub returns-then-ranked-clause-truth : goal.returns-then-ranked-clause-truth
returns-then-ranked-clause-truth c =
    let ranks : IsRanked c.args.tree.now = c.in_ok-ranked.ensures c.if-ranked.true in
    let keeps = subst (λ (gates : List Gate). KeepsTop c.args.tree.now.gates c.args.tree.now.top gates c.in_ok-left.left.top) (sym c.as_slice.ensures.value) c.in_ok-left.ensures.top in
    IfOk-weaker c.finished.result _ _ (λ tree m. same-top c.args.system.now c.args.tree.now c.as_slice.result.now c.in_ok-left.left.top tree ranks keeps m) c.finished.ensures

pub returns-then-ranked-clause-reached : goal.returns-then-ranked-clause-reached
returns-then-ranked-clause-reached c = IfOk-weaker c.finished.result _ _ (λ tree m. m.tested.reached) c.finished.ensures

pub returns-then-ranked-clause-settled : goal.returns-then-ranked-clause-settled
returns-then-ranked-clause-settled c =
    IfOk-weaker c.finished.result _ _ (λ tree m. settled c.args.system.now c.args.tree.now.gates c.as_slice.result.now c.in_ok-left.left.top tree m) c.finished.ensures
