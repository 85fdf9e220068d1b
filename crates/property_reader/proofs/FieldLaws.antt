-- The fields of a value are those as which its tokens read.
use Rattle.std.proofs.Common.{◌≡◌, ◌↔◌, suc, List, [], length, None, Some, refl, sym, subst, ◌∙◌}
use Rattle.aadl_syntax.specs.declared.token.Token.{Token}
use Rattle.grammar_rules.specs.Rules.{Reads}
use Rattle.grammar_rules.specs.Running.{Outcome, read, dead, run}
use Rattle.grammar_rules.proofs.Laws.{IsOutcome, is_outcome}
use Rattle.property_reader.specs.declared.field.Field.{Field}
use Rattle.property_reader.specs.Fields.{rate_value, value_fields, value_read}

-- nothing is left behind a value
nothing_left : (tokens : List Token) (its : List Field) (rest : List Token) → Reads 0 rate_value tokens its rest → rest ≡ []
unfolding rate_value
nothing_left tokens its rest reads = reads.3.3.3.3.1 ∙ reads.3.3.3.2.1

pub value-reads : (tokens : List Token) (its : List Field) → (value_fields tokens ≡ Some its) ↔ Reads 0 rate_value tokens its []
value-reads tokens its = by (run 0 rate_value tokens (suc (length tokens))) (is_outcome 0 rate_value tokens (suc (length tokens)))
  where
    by : (o : Outcome (List Field)) → IsOutcome 0 rate_value tokens (suc (length tokens)) o → (value_read o ≡ Some its) ↔ Reads 0 rate_value tokens its []
    by (dead left) none = (λ is. let never : None ≡ Some its = is in cc, λ reads. absurd (none.none tokens (record { same = λ k w. refl }) its [] reads))
    by (read value rest left) one = (
      λ is.
          let same : value ≡ its = let both : Some value ≡ Some its = is in cc in
          subst (λ v. Reads 0 rate_value tokens v []) same (subst (λ r. Reads 0 rate_value tokens value r) (nothing_left tokens value rest one.reads) one.reads),
      λ reads. let same = (one.alone tokens (record { same = λ k w. refl }) its [] reads).0 in λ i. Some (sym same i),
    )
