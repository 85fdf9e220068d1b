use Rattle.std.proofs.Common.{◌≡◌, ◌++◌, sym, rules}
use Rattle.std.proofs.lemmas.List.{take-append-drop}
use Rattle.cutset_engine.specs.inner.Gates.{of_all, of_both}
use Rattle.cutset_engine.proofs.Covering.{halves, of_all-append, none_made, one_made}
use Rattle.cutset_engine.proofs.gates.+of_parts.Goals as goal

pub returns-then-is_empty : goal.returns-then-is_empty
returns-then-is_empty t c = none_made c.args.store.now c.args.most c.args.gate c.args.parts.now c.of_none.result (search rules) c.of_none.ensures

pub returns-then-parts-eq1 : goal.returns-then-parts-eq1
returns-then-parts-eq1 t c = one_made c.args.store.now c.args.most c.args.gate c.args.parts.now _ c.requires (search rules) (search rules)

pub returns : goal.returns
returns t c =
    let is : c.args.parts.now ≡ c.split_at.result.0.now ++ c.split_at.result.1.now = rw (c.split_at.ensures.front, c.split_at.ensures.back) (sym (take-append-drop _ c.args.parts.now)) in
    halves (of_all c.args.gate) (of_both c.args.gate) (of_all-append c.args.gate) c.args.store.now c.of_parts.new.store c.of_parts-2.new.store c.of_two.new.store c.args.most c.split_at.result.0.now c.split_at.result.1.now c.args.parts.now c.in_ok-first.first c.in_ok-second.second c.of_two.result
    c.of_parts.ensures.kept c.in_ok-first.ensures.made c.of_parts-2.ensures.kept c.in_ok-second.ensures.made c.of_two.ensures c.requires is
