use Rattle.std.proofs.Common.{◌≡◌, ◌+◌, ◌-◌, ◌<◌, ◌∷◌, ◌++◌, [], ℕ, List, length, cond, ap, ◌∙◌, sym, subst, arith}
use Rattle.std.specs.List.{list_any}
use Rattle.round_gates.specs.declared.node.GateKey.{GateKey}
use Rattle.round_gates.specs.contracts.node.GateKeyPartialEq.TheImpl.{eq-value as key_eq}
use Rattle.round_gates.specs.inner.Reached.{AreReachedFrom, is_place}
use Rattle.round_gates.proofs.Reaches.{reached-start, reached-next, reached-end}
use Rattle.round_gates.proofs.reaching.reached.Goals as goal

pub loop-done-init : goal.loop-done-init
loop-done-init c =
    let one : c.insert.new.self.keys ≡ c.args.top ∷ [] = c.in_ok-insert.ensures.keys ∙ ap (λ (ks : List GateKey). cond (list_any (key_eq.it c.args.top) ks) ks (ks ++ c.args.top ∷ [])) c.new-keys.ensures.empty in
    let all : length c.args.lines.now - 0 ≡ length c.args.lines.now = omega arith in
    subst (λ (n : ℕ). AreReachedFrom c.args.lines.now c.args.top n c.insert.new.self.keys) (sym all)
    (subst (AreReachedFrom c.args.lines.now c.args.top (length c.args.lines.now)) (sym one) (reached-start c.args.lines.now c.args.top))

pub loop-done-preserved : goal.loop-done-preserved
loop-done-preserved c =
    let i : ℕ = length c.args.lines.now - 1 - c.loop-done.done in
    let fits : i < length c.args.lines.now = omega arith in
    let before : length c.args.lines.now - c.loop-done.done ≡ i + 1 = omega arith in
    let after : length c.args.lines.now - (c.loop-done.done + 1) ≡ i = omega arith in
    subst (λ (n : ℕ). AreReachedFrom c.args.lines.now c.args.top n c.visit.new.keys.keys) (sym after)
    (reached-next c.args.lines.now c.args.top c.requires.behind i c.index-lines-place.result fits c.index-lines-place.is c.loop-done.keys.keys c.visit.new.keys.keys c.is_first.result
    (c.is_first.ensures ∙ ap (λ found. is_place found i) (c.requires.places c.index-lines-place.result.key)) c.in_ok-visit.ensures
    (subst (λ (n : ℕ). AreReachedFrom c.args.lines.now c.args.top n c.loop-done.keys.keys) before c.loop-done.invariant))

pub returns : goal.returns
returns c =
    let none : length c.args.lines.now - c.loop-done.done ≡ 0 = omega arith in
    reached-end c.args.lines.now c.args.top c.loop-done.keys.keys (subst (λ (n : ℕ). AreReachedFrom c.args.lines.now c.args.top n c.loop-done.keys.keys) none c.loop-done.invariant)
