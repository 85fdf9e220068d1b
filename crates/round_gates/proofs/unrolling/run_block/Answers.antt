use Rattle.std.proofs.Common.{◌≡◌, ◌<◌, ℕ, List, filter, length, All, subst, sym, arith}
use Rattle.std.proofs.lemmas.List.Elements.{All-filter}
use Rattle.round_gates.specs.Stages.{in_block}
use Rattle.round_gates.specs.inner.Unrolled.{IsSmall}
use Rattle.round_gates.proofs.Steps.{block-first, block-last, stage-next-of}
use Rattle.round_gates.proofs.unrolling.run_block.Goals as goal

pub loop-stage-init : goal.loop-stage-init
loop-stage-init c = block-first c.args.sliced.now.system.now c.facts-facts.ensures.system c.args.sliced.now.slice.now.facts c.args.sliced.now.blocks.now c.requires.sliced.blocks c.args.block c.args.nodes.now c.args.lines.now.items c.requires.before

pub run_stage-requires-clause-small : goal.run_stage-requires-clause-small
run_stage-requires-clause-small c =
    subst (λ (ms : List ℕ). All (IsSmall c.args.sliced.now.system.now) ms) (sym c.requires.members)
    (All-filter (in_block c.args.sliced.now.blocks.now c.args.block) (IsSmall c.args.sliced.now.system.now) c.args.sliced.now.slice.now.facts c.requires.sliced.small)

pub run_stage-requires-clause-inside : goal.run_stage-requires-clause-inside
run_stage-requires-clause-inside c =
    subst (λ (ms : List ℕ). All (λ fact. fact < length c.loop-stage.nodes) ms) (sym c.requires.members)
    (subst (λ (most : ℕ). All (λ fact. fact < most) (filter (in_block c.args.sliced.now.blocks.now c.args.block) c.args.sliced.now.slice.now.facts)) (sym c.loop-stage.invariant.long)
    (All-filter (in_block c.args.sliced.now.blocks.now c.args.block) (λ fact. fact < length c.args.sliced.now.system.now.facts) c.args.sliced.now.slice.now.facts c.requires.sliced.inside))

pub loop-stage-preserved : goal.loop-stage-preserved
loop-stage-preserved c =
    let count : c.size_of-count.result ≡ _ = c.size_of-count.ensures c.requires.block in
    stage-next-of c.args.sliced.now.system.now c.facts-facts.ensures.system c.args.sliced.now.slice.now.facts c.args.sliced.now.blocks.now c.requires.sliced.blocks c.args.block c.requires.block c.loop-stage.stage (omega arith)
    c.loop-stage.nodes c.run_stage.new.nodes c.loop-stage.lines.items c.run_stage.new.lines.items c.args.members.now c.requires.members c.loop-stage.invariant c.run_stage.auto.nodes c.in_ok-run_stage.ensures.nodes c.in_ok-run_stage.ensures.lines

pub returns : goal.returns
returns c =
    let count : c.size_of-count.result ≡ _ = c.size_of-count.ensures c.requires.block in
    block-last c.args.sliced.now.system.now c.facts-facts.ensures.system c.args.sliced.now.slice.now.facts c.args.sliced.now.blocks.now c.requires.sliced.blocks c.args.block c.loop-stage.stage c.loop-stage.nodes c.loop-stage.lines.items (omega arith) c.loop-stage.invariant
