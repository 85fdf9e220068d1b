use Rattle.std.proofs.Common.{subst}
use Rattle.phases.specs.inner.Meets.{IsMemory, Meets}
use Rattle.phases.specs.Phases.{chains}
use Rattle.phases.proofs.Steps.{◌beyond◌, ends, exits, meets_later}
use Rattle.system_answers.specs.Texts.{path_page, slice_of, start_of, target_of}
use Rattle.system_answers.proofs.answers.paths.Goals as goal

pub returns-in_err-part : goal.returns-in_err-part
returns-in_err-part c = exits _ _ _ _ _ c.from_residual-in_err-part.ensures.1 (c.in_ok-number.ensures beyond c.in_ok-start.ensures beyond ends c.in_err-part.ensures)

pub returns : goal.returns
returns c =
    let system = c.args.system in
    let paging = c.args.paging.now in
    let number = c.in_ok-number.number in
    let start = c.in_ok-start.start in
    let its = subst (λ target. Meets (path_page target start paging system) c.path_page.result) c.in_ok-part.ensures.passed.is_slice.target_is c.path_page.ensures in
    meets_later IsMemory (λ page. page) (target_of c.args.target.now system) (λ n. chains (start_of paging.after system) (λ s. chains (slice_of n system) (λ _. path_page n s paging system))) number c.path_page.result (λ s memory. memory) c.in_ok-number.ensures
    (meets_later IsMemory (λ page. page) (start_of paging.after system) (λ s. chains (slice_of number system) (λ _. path_page number s paging system)) start c.path_page.result (λ s memory. memory) c.in_ok-start.ensures
    (meets_later IsMemory (λ page. page) (slice_of number system) (λ _. path_page number start paging system) c.in_ok-part.part c.path_page.result (λ s memory. memory) c.in_ok-part.ensures its))
