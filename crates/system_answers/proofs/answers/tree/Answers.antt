use Rattle.std.proofs.Common.{subst}
use Rattle.phases.specs.inner.Meets.{IsMemory, MeetsBut}
use Rattle.phases.specs.Phases.{chains}
use Rattle.phases.proofs.Steps.{meets_later}
use Rattle.system_answers.specs.Texts.{formed_tree, slice_of, target_of}
use Rattle.system_answers.specs.inner.Forms.{tree_bytes}
use Rattle.system_answers.proofs.Shapes.{all_writable}
use Rattle.system_answers.proofs.answers.tree.Goals as goal

pub formed-requires-clause-writable : goal.formed-requires-clause-writable
formed-requires-clause-writable c = all_writable c.args.form.format c.args.system c.args.rates c.requires.names c.requires.rates

pub returns : goal.returns
returns c =
    let system = c.args.system in
    let rates = c.args.rates in
    let form = c.args.form in
    let number = c.in_ok-number.number in
    let its = subst (λ target. MeetsBut IsMemory tree_bytes (formed_tree target form system rates) c.formed.result) c.in_ok-part.ensures.passed.is_slice.target_is c.formed.ensures in
    meets_later IsMemory tree_bytes (target_of c.args.target.now system) (λ n. chains (slice_of n system) (λ _. formed_tree n form system rates)) number c.formed.result (λ s memory. memory) c.in_ok-number.ensures
    (meets_later IsMemory tree_bytes (slice_of number system) (λ _. formed_tree number form system rates) c.in_ok-part.part c.formed.result (λ s memory. memory) c.in_ok-part.ensures its)
