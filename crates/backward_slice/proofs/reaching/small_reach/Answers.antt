use Rattle.std.proofs.Common.{List, ℕ, ◌≡◌, ◌+◌, ◌-◌, length, take, ap, ◌∙◌, subst, arith, length-append, ◌∷◌, [], ◌++◌}
use Rattle.fault_system.proofs.TruthLaws.{count_true-le}
use Rattle.backward_slice.specs.inner.Marks.{IsMarking}
use Rattle.backward_slice.specs.inner.Reach.{all_ways}
use Rattle.backward_slice.proofs.Reached.{marking-end, small-is}
use Rattle.backward_slice.proofs.reaching.small_reach.Goals as goal

pub loop-number-init : goal.loop-number-init
loop-number-init c = c.in_ok-marking.ensures.first all_ways

pub go_on-requires : goal.go_on-requires
go_on-requires c = subst (IsMarking c.args.system.now all_ways c.args.from.now c.loop-number.marking.facts c.loop-number.marking.events) c.in-Some.ensures.items c.loop-number.invariant

pub loop-number-smaller : goal.loop-number-smaller
loop-number-smaller c =
    let long : length c.loop-number.marking.waiting.items ≡ length c.pop.new.self.items + 1 = ap length c.in-Some.ensures.items ∙ length-append c.pop.new.self.items (c.in-Some.number ∷ []) in
    omega (arith, long, c.in_ok-go_on.ensures.less, c.in_ok-go_on.ensures.next.facts_size, count_true-le c.go_on.new.marking.facts)

pub returns : goal.returns
returns c =
    let rest : c.pop.new.self.items ≡ [] = c.in_default.ensures.rest ∙ ap (λ k. take (k - 1) c.loop-number.marking.waiting.items) c.in_default.ensures.cases.0 in
    let none : c.loop-number.marking.waiting.items ≡ [] = c.in_default.ensures.items ∙ ap (λ (xs : List ℕ). xs ++ []) rest in
    small-is c.args.system.now c.args.from.now _ c.if_small.result
    (marking-end c.args.system.now all_ways c.args.from.now (record { facts = c.loop-number.marking.facts; events = c.loop-number.marking.events }) c.first_marking.ensures.system
    (subst (IsMarking c.args.system.now all_ways c.args.from.now c.loop-number.marking.facts c.loop-number.marking.events) none c.loop-number.invariant)) c.if_small.ensures
