use Rattle.std.proofs.Common.{Global, Vec, ap, subst, ◌∙◌, ℕ}
use Rattle.phases.specs.inner.Meets.{IsMemory, MeetsBut}
use Rattle.phases.specs.Phases.{chains}
use Rattle.phases.proofs.Steps.{meets_later}
use Rattle.fault_system.specs.Truth.{set_of}
use Rattle.system_answers.specs.Derivations.{lines_why, set_of_text}
use Rattle.system_answers.specs.Texts.{target_of}
use Rattle.system_answers.proofs.derivations_text.why.Goals as goal

pub returns : goal.returns
returns c =
    let system = c.args.system.now in
    let text = c.args.set.now in
    let number = c.in_ok-number.number in
    let set = c.in_ok-chosen.chosen in
    let its = subst (λ events. MeetsBut IsMemory (λ (made : Vec ℕ Global). made.items) (lines_why number events system) c.lines_why.result) (c.in_ok-events.ensures ∙ ap set_of c.items.ensures.items) c.lines_why.ensures in
    meets_later IsMemory (λ (made : Vec ℕ Global). made.items) (target_of c.args.target.now system) (λ n. chains (set_of_text text system) (λ s. lines_why n (set_of s) system)) number c.lines_why.result (λ s memory. memory) c.in_ok-number.ensures
    (meets_later IsMemory (λ (made : Vec ℕ Global). made.items) (set_of_text text system) (λ s. lines_why number (set_of s) system) set c.lines_why.result (λ s memory. memory) c.in_ok-chosen.ensures.set its)
