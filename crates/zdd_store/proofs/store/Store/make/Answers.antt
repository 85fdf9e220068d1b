use Rattle.std.proofs.Common.{◌≡◌, ℕ, zero, suc, ◌<◌, true, false, eqb, sym, ap, subst, ◌∙◌, arith, rules, eqb-true}
use Rattle.zdd_store.specs.inner.Family.{branch}
use Rattle.zdd_store.specs.inner.Store.{family_at, IsSound}
use Rattle.zdd_store.specs.declared.id.Node.{Node}
use Rattle.zdd_store.proofs.Branches.{branch-empty}
use Rattle.zdd_store.proofs.Making.{Made, made}
use Rattle.zdd_store.specs.contracts.id.NodePartialEq.TheImpl.{eq-value as node_eq}
use Rattle.std.specs.HashMap.{get}
use Rattle.zdd_store.specs.contracts.question.QuestionPartialEq.TheImpl.{eq-value as question_eq}
use Rattle.zdd_store.specs.inner.Nodes.{families}
use Rattle.zdd_store.proofs.store.Store.make.Goals as goal

-- without sets under the variable the family is that of lo
pub returns-then-eq-clause-family : goal.returns-then-eq-clause-family
returns-then-eq-clause-family c =
    let sound : IsSound c.args.self.now = subst IsSound c.self.view_is c.self.invariant.0.sound in
    let zero_is : c.args.hi.position ≡ 0 = eqb-true c.args.hi.position 0 (sym c.eq.ensures ∙ c.if-eq.true) in
    sym (ap (branch c.args.var (family_at c.args.self.now c.args.lo.position)) (ap (family_at c.args.self.now) zero_is ∙ sound.empty) ∙ branch-empty c.args.var (family_at c.args.self.now c.args.lo.position))

pub returns-then-eq-clause-sound : goal.returns-then-eq-clause-sound
returns-then-eq-clause-sound c = subst IsSound c.self.view_is c.self.invariant.0.sound

node_same : (a : Node) → (node_eq).it a a ≡ true
node_same a = search rules

node_exact : (a b : Node) → (node_eq).it a b ≡ true → a ≡ b
node_exact a b e = search rules

positive : (n : ℕ) → eqb n 0 ≡ false → 0 < n
positive zero e = cc
positive (suc n) e = omega arith

-- the store after the insert
after_insert : (c : goal.After-note_shape) → Made c.args.self.now c.self.inside.shapes.items c.self.inside.known.items (get question_eq.it c.self.inside.kept) (record { var = c.args.var; lo = c.args.lo; hi = c.args.hi }) c.insert_full.new.self.keys c.in_ok-index.index
after_insert c =
    let stored = c.in_ok-index.ensures.stored in
    let len = c.len-count.ensures.len in
    made node_eq.it node_same node_exact c.self.inside.nodes.keys c.insert_full.new.self.keys c.args.self.now c.self.inside.shapes.items c.self.inside.known.items (get question_eq.it c.self.inside.kept)
    (record { var = c.args.var; lo = c.args.lo; hi = c.args.hi }) c.in_ok-index.index c.self.view_is c.self.invariant.0 c.self.invariant.1 c.self.invariant.2 c.self.invariant.3 (omega arith)
    (record {
      lo_in = c.requires.lo_in;
      hi_in = c.requires.hi_in;
      lo_greater = c.requires.lo_greater;
      hi_greater = c.requires.hi_greater;
      hi_some = positive c.args.hi.position (sym c.eq.ensures ∙ c.if-eq.false);
    })
    c.in_ok-index.ensures.keys stored.0 stored.1 stored.2

pub invariant_of-self-2 : goal.invariant_of-self-2
invariant_of-self-2 c =
    let m = after_insert c in (
      m.nodes,
      c.note_shape.ensures (families c.insert_full.new.self.keys) c.args.var m.nodes.sound m.found m.own m.shaped,
      m.answers,
      m.kept_right,
    )

pub returns-clause-found : goal.returns-clause-found
returns-clause-found c = (after_insert c).found

pub returns-clause-family : goal.returns-clause-family
returns-clause-family c = (after_insert c).family

pub returns-clause-kept : goal.returns-clause-kept
returns-clause-kept c = (after_insert c).kept

pub returns-clause-sound : goal.returns-clause-sound
returns-clause-sound c = (after_insert c).nodes.sound
