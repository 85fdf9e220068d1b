-- The binding of a piece is the one as which it reads.
use Rattle.std.proofs.Common.{◌≡◌, ◌↔◌, ℕ, suc, Bool, List, [], length, None, Some, refl, sym, subst, ◌∙◌}
use Rattle.aadl_syntax.specs.declared.core_model.Binding.{Binding}
use Rattle.aadl_syntax.specs.declared.token.Token.{Token}
use Rattle.grammar_rules.specs.Rules.{Reads}
use Rattle.grammar_rules.specs.Running.{Outcome, read, dead, run}
use Rattle.grammar_rules.proofs.Laws.{IsOutcome, is_outcome}
use Rattle.bindings.specs.Bindings.{binding, binding_read, piece_binding}

-- nothing is left behind a binding
nothing_left : (file : ℕ) (braced : Bool) (tokens : List Token) (its : Binding) (rest : List Token) → Reads file (binding braced) tokens its rest → rest ≡ []
unfolding binding
nothing_left file braced tokens its rest reads = reads.3.3.3.3.3.3.3.1 ∙ reads.3.3.3.3.3.3.2.1

pub binding-reads : (file : ℕ) (braced : Bool) (tokens : List Token) (its : Binding) → (piece_binding file braced tokens ≡ Some its) ↔ Reads file (binding braced) tokens its []
binding-reads file braced tokens its = by (run file (binding braced) tokens (suc (length tokens))) (is_outcome file (binding braced) tokens (suc (length tokens)))
  where
    by : (o : Outcome Binding) → IsOutcome file (binding braced) tokens (suc (length tokens)) o → (binding_read o ≡ Some its) ↔ Reads file (binding braced) tokens its []
    by (dead left) none = (λ is. let never : None ≡ Some its = is in cc, λ reads. absurd (none.none tokens (record { same = λ k w. refl }) its [] reads))
    by (read value rest left) one = (
      λ is.
          let same : value ≡ its = let both : Some value ≡ Some its = is in cc in
          subst (λ v. Reads file (binding braced) tokens v []) same (subst (λ r. Reads file (binding braced) tokens value r) (nothing_left file braced tokens value rest one.reads) one.reads),
      λ reads. let same = (one.alone tokens (record { same = λ k w. refl }) its [] reads).0 in λ i. Some (sym same i),
    )
