use Rattle.std.proofs.Common.{ℕ, ◌<◌, ◌∙◌, Bool, List, [], get_or, length, sym, ap, subst, arith}
use Rattle.std.proofs.lemmas.Bool.{false≢true}
use Rattle.fault_system.specs.Truth.{Has, member}
use Rattle.fault_system.proofs.NumberSets.{member-replicate}
use Rattle.target_orders.proofs.CutLaws.{none-known}
use Rattle.target_orders.proofs.cuts.first_search.Goals as goal

pub returns : goal.returns
returns c = record {
  are_cuts = λ fact some.
      let none : 0 < 0 = subst (λ (set : List ℕ). 0 < length set) (ap (λ (sets : List (List ℕ)). get_or sets fact []) c.in_ok-sets.ensures ∙ none-known _ fact) some in
      absurd (omega (arith, none));
  none = λ n has. absurd (false≢true (sym (member-replicate _ n) ∙ subst (λ (marks : List Bool). Has (member marks) n) c.in_ok-marks.ensures has));
}
