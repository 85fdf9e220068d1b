use Rattle.std.proofs.Common.{ℕ, ◌<◌, List, filter, length, map, ap, ◌++◌, ◌∙◌, sym, subst}
use Rattle.std.specs.Prelude.{All}
use Rattle.fault_system.proofs.NumberSets.{RisesWithin-each}
use Rattle.system_review.specs.declared.looping.Loop.{Loop}
use Rattle.fact_formulas.specs.Flat.{is_of_root}
use Rattle.model_review.specs.Seen.{is_error_event}
use Rattle.model_review.specs.Told.{effect_findings}
use Rattle.model_review.specs.declared.finding.Finding.TheVariants.{InLoop, NoSingle, UnusedEvent}
use Rattle.model_review.proofs.Telling.{found-told, steps-told}
use Rattle.model_review.proofs.told.add_told.Goals as goal

pub unreached_events-requires : goal.unreached_events-requires
unreached_events-requires c =
    let most = length c.system-system.result.now.facts in
    subst (λ (ns : List ℕ). All (λ n. n < most) ns) (sym c.items.ensures.items) (RisesWithin-each 0 most c.in_ok-root.root c.in_ok-root.ensures.rise)

pub returns : goal.returns
returns c =
    let seen = c.args.view.now in
    let loops = c.in_ok-loops.loops in
    let unused = c.in_ok-unused.unused in
    let no_single = c.in_ok-no_single.no_single in
    let unreached = c.in_ok-unreached.unreached in
    let roots = c.in_ok-root.ensures.effects ∙ (λ i. filter (is_of_root (c.system-system.ensures i)) (c.effects-effects.ensures i)) in
    let one = c.in_ok-add_loops.ensures ∙ ap (λ (all : List Loop). c.args.found.now ++ map InLoop all) c.items-2.ensures.items in
    let two = c.in_ok-add_unused.ensures ∙ ap (λ (all : List ℕ). c.add_loops.new.found ++ map UnusedEvent (filter (is_error_event seen) all)) c.items-3.ensures.items in
    let three = c.in_ok-add_no_single.ensures ∙ ap (λ (all : List ℕ). c.add_unused.new.found ++ map NoSingle all) c.items-4.ensures.items in
    let four = c.in_ok-add_unreached.ensures ∙ ap (λ (all : List ℕ). c.add_no_single.new.found ++ effect_findings seen c.items-5.result.now all) c.items-6.ensures.items in (
      loops,
      unused,
      no_single,
      unreached,
      found-told seen loops unused no_single unreached c.system-system.result.now c.effects-effects.result.now c.in_ok-root.root c.items.result.now c.system-system.ensures c.effects-effects.ensures c.in_ok-root.ensures.effects c.items.ensures.items c.in_ok-loops.ensures.loops c.in_ok-unused.ensures c.in_ok-no_single.ensures c.in_ok-unreached.ensures,
      steps-told seen loops unused no_single unreached c.args.found.now c.add_loops.new.found c.add_unused.new.found c.add_no_single.new.found c.add_unreached.new.found c.items-5.result.now (c.items-5.ensures.items ∙ roots) one two three four,
    )
