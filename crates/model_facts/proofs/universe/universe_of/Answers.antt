use Rattle.std.proofs.Common.{◌≡◌, false, List, ℕ, Bool, IfOk, filter, length, slice_index_or, ap, ◌∙◌, subst}
use Rattle.plain_values.specs.Numbered.{numbers_below}
use Rattle.model_facts.specs.Assembly.{declared_numbers}
use Rattle.model_facts.proofs.MarkLaws.{marked-are}
use Rattle.model_facts.proofs.universe.universe_of.Goals as goal

pub returns : goal.returns
returns c =
    let assembly = c.args.assembly.now in
    let made = λ (marks : List Bool). filter (λ number. slice_index_or marks number false) (numbers_below (length marks)) in
    let is = ap made c.as_slice.ensures.value ∙ marked-are (length assembly.types.types) (declared_numbers assembly.models) c.in_ok-marks.marks.items c.in_ok-marks.ensures in
    subst (λ (numbers : List ℕ). IfOk c.marked.result (λ universe. universe ≡ numbers)) is c.marked.ensures
