use Rattle.std.proofs.Common.{ℕ, sym, subst}
use Rattle.phases.specs.inner.Meets.{IsMemory, Meets}
use Rattle.phases.specs.Phases.{Passes}
use Rattle.phases.proofs.Steps.{meets_later}
use Rattle.fault_system.specs.Systems.{System}
use Rattle.galileo_reader.specs.TreeSystems.{system_of, target_of as top_of_tree}
use Rattle.path_sets.specs.inner.Duals.{IsWithoutFeedback}
use Rattle.system_answers.specs.Texts.{dual_page, slice_of}
use Rattle.system_answers.proofs.galileo.paths_of.Goals as goal

pub dual_page-requires-clause-free : goal.dual_page-requires-clause-free
dual_page-requires-clause-free c = subst IsWithoutFeedback (sym c.in_ok-system.ensures.system) c.requires.free

pub returns : goal.returns
returns c =
    let tree = c.args.tree.now in
    let top = top_of_tree tree tree.top in
    let part = c.in_ok-_part._part in
    let passes = subst (λ (system : System). Passes (slice_of top system) part) c.in_ok-system.ensures.system
    (subst (λ (number : ℕ). Passes (slice_of number c.in_ok-system.system) part) c.in_ok-system.ensures.target c.in_ok-_part.ensures) in
    let page = subst (λ (system : System). Meets (dual_page top c.args.limit c.args.max_order system) c.dual_page.result) c.in_ok-system.ensures.system
    (subst (λ (number : ℕ). Meets (dual_page number c.args.limit c.args.max_order c.in_ok-system.system) c.dual_page.result) c.in_ok-system.ensures.target c.dual_page.ensures) in
    meets_later IsMemory (λ page. page) (slice_of top (system_of tree)) (λ _. dual_page top c.args.limit c.args.max_order (system_of tree)) part c.dual_page.result (λ s memory. memory) passes page
