use Rattle.std.proofs.Common.{◌≡◌, ◌++◌, true, false, IfOk, OnOk, subst}
use Rattle.round_gates.specs.declared.node.Node.{Node}
use Rattle.round_gates.specs.declared.node.Line.{Line}
use Rattle.std.proofs.Common.{List}
use Rattle.round_gates.specs.Nodes.{has_node}
use Rattle.round_gates.proofs.Kept.{seen-insert, seen-tells, input-new, input-old, repeat-new, repeat-old, on_ok}
use Rattle.round_gates.proofs.walking.input_of.Goals as goal

pub returns-then-is_new : goal.returns-then-is_new
returns-then-is_new c =
    let new : has_node c.args.seen.now.keys c.args.part.node ≡ false = seen-tells c.args.seen.now.keys c.args.part.node _ true c.in_ok-is_new.ensures.added c.if-is_new.true in
    record {
      node = input-new c.args.stage c.args.seen.now.keys c.args.part new;
      seen = seen-insert c.args.seen.now.keys _ c.args.part.node c.in_ok-is_new.ensures.keys;
      lines = repeat-new c.args.stage c.args.seen.now.keys c.args.part c.args.lines.now.items new;
    }

pub returns : goal.returns
returns c =
    let old : has_node c.args.seen.now.keys c.args.part.node ≡ true = seen-tells c.args.seen.now.keys c.args.part.node _ false c.in_ok-is_new.ensures.added c.if-is_new.false in
    record {
      node = subst (λ (g : Node). IfOk c.wrap.result (λ n. n ≡ g)) (input-old c.args.stage c.args.seen.now.keys c.args.part old) c.wrap.ensures.node;
      seen = on_ok c.wrap.result _ (seen-insert c.args.seen.now.keys _ c.args.part.node c.in_ok-is_new.ensures.keys);
      lines = subst (λ (ls : List Line). OnOk c.wrap.result (c.wrap.new.lines.items ≡ c.args.lines.now.items ++ ls)) (repeat-old c.args.stage c.args.seen.now.keys c.args.part old) c.wrap.ensures.lines;
    }
