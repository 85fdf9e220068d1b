use Rattle.std.proofs.Common.{ℕ, ◌≡◌, Bool, List, false, length, replicate, ap, ◌∙◌}
use Rattle.std.proofs.lemmas.List.{length-replicate}
use Rattle.fault_system.specs.Truth.{member}
use Rattle.fault_system.proofs.NumberSets.{member-replicate}
use Rattle.backward_slice.proofs.Reached.{marking-first}
use Rattle.backward_slice.proofs.reaching.first_marking.Goals as goal

none : (marks : List Bool) (size : ℕ) → marks ≡ replicate size false → (n : ℕ) → member marks n ≡ false
none marks size made n = ap (λ bs. member bs n) made ∙ member-replicate size n

pub returns-clause-first : goal.returns-clause-first
returns-clause-first c ways =
    marking-first c.args.system.now ways c.args.from.now _ c.mark_all.new.marking c.requires
    (ap length c.in_ok-new.ensures ∙ length-replicate c.facts.result false ∙ c.facts.ensures.count)
    (ap length c.in_ok-new-2.ensures ∙ length-replicate c.events.result false ∙ c.events.ensures.count)
    (none _ c.facts.result c.in_ok-new.ensures) (none _ c.events.result c.in_ok-new-2.ensures) c.in_ok-mark_all.ensures
