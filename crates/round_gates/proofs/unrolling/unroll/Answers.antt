use Rattle.std.proofs.Common.{◌≡◌, ◌<◌, ◌∙◌, [], ℕ, List, All, length, drop, subst, sym, ap, arith}
use Rattle.dependency_blocks.specs.Blocks.{number_of}
use Rattle.round_gates.specs.declared.node.Node.{Node}
use Rattle.round_gates.specs.Stages.{low_nodes}
use Rattle.round_gates.specs.inner.Unrolled.{AreUnrolled, IsUnrolling}
use Rattle.round_gates.proofs.Gathering.{taken}
use Rattle.round_gates.proofs.Steps.{unrolled-none, unrolling-of}
use Rattle.round_gates.proofs.unrolling.unroll.Goals as goal

pub run_blocks-requires-clause-before : goal.run_blocks-requires-clause-before
run_blocks-requires-clause-before c =
    let S = c.args.system.now in
    subst (AreUnrolled S c.args.blocks.now (low_nodes S c.args.blocks.now 0) c.as_mut_slice.result.now) (sym c.new-lines.ensures.items)
    (subst (λ (nodes : List Node). AreUnrolled S c.args.blocks.now (low_nodes S c.args.blocks.now 0) nodes []) (sym c.as_mut_slice.ensures.value)
    (unrolled-none S c.facts.ensures.system c.args.slice.now.facts c.args.blocks.now c.requires.blocks c.in_ok-nodes.nodes.items (c.in_ok-nodes.ensures.count ∙ c.facts.ensures.count) c.in_ok-nodes.ensures.never))

pub returns : goal.returns
returns c =
    let S = c.args.system.now in
    let facts = c.args.slice.now.facts in
    let lists_long : length c.as_slice.result.now ≡ c.bound_of-bound.result = ap length c.as_slice.ensures.value ∙ c.in_ok-lists.ensures.count in
    let above : All (λ fact. number_of c.args.blocks.now fact < 4294967295 → number_of c.args.blocks.now fact < length c.as_slice.result.now) facts =
    subst (λ (xs : List ℕ). All (λ fact. number_of c.args.blocks.now fact < 4294967295 → number_of c.args.blocks.now fact < length c.as_slice.result.now) xs) c.items-facts.ensures.items
    (subst (λ (n : ℕ). All (λ fact. number_of c.args.blocks.now fact < 4294967295 → number_of c.args.blocks.now fact < n) c.items-facts.result.now) (sym lists_long) c.bound_of-bound.ensures.above) in
    let long : length c.run_blocks.new.nodes ≡ c.in_ok-nodes.nodes.len = omega arith in
    subst (λ (nodes : List Node). IsUnrolling S facts c.args.blocks.now nodes c.run_blocks.new.lines.items) (sym (taken c.in_ok-nodes.nodes.len c.run_blocks.new.nodes (drop (length c.run_blocks.new.nodes) c.in_ok-nodes.nodes.items) long))
    (unrolling-of S c.facts.ensures.system facts c.args.blocks.now c.requires.blocks (length c.as_slice.result.now) above c.run_blocks.new.nodes c.run_blocks.new.lines.items c.in_ok-run_blocks.ensures)
