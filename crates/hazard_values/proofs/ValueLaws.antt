-- The records and the items of a value are those as which its tokens read.
use Rattle.std.proofs.Common.{◌≡◌, ◌↔◌, suc, List, [], length, None, Some, refl, sym, subst, ◌∙◌}
use Rattle.aadl_syntax.specs.declared.token.Token.{Token}
use Rattle.grammar_rules.specs.Rules.{Rule, Reads}
use Rattle.grammar_rules.specs.Running.{Outcome, read, dead, run}
use Rattle.grammar_rules.proofs.Laws.{IsOutcome, is_outcome}
use Rattle.hazard_values.specs.declared.field.Field.{Field}
use Rattle.hazard_values.specs.Records.{hazards_value, value_records}
use Rattle.hazard_values.specs.Texts.{list_items, list_value, value_in}

-- the value of a whole reading is that as which the tokens read, for a rule behind which nothing is left
whole-reads : {A : Type 0} (rule : Rule A) → ((tokens : List Token) (value : A) (rest : List Token) → Reads 0 rule tokens value rest → rest ≡ [])
    → (tokens : List Token) (its : A) → (value_in (run 0 rule tokens (suc (length tokens))) ≡ Some its) ↔ Reads 0 rule tokens its []
whole-reads {A} rule nothing_left tokens its = by (run 0 rule tokens (suc (length tokens))) (is_outcome 0 rule tokens (suc (length tokens)))
  where
    by : (o : Outcome A) → IsOutcome 0 rule tokens (suc (length tokens)) o → (value_in o ≡ Some its) ↔ Reads 0 rule tokens its []
    by (dead left) none = (λ is. let never : None ≡ Some its = is in cc, λ reads. absurd (none.none tokens (record { same = λ k w. refl }) its [] reads))
    by (read value rest left) one = (
      λ is.
          let same : value ≡ its = let both : Some value ≡ Some its = is in cc in
          subst (λ v. Reads 0 rule tokens v []) same (subst (λ r. Reads 0 rule tokens value r) (nothing_left tokens value rest one.reads) one.reads),
      λ reads. let same = (one.alone tokens (record { same = λ k w. refl }) its [] reads).0 in λ i. Some (sym same i),
    )

-- nothing is left behind records
no_more : (tokens : List Token) (records : List (List Field)) (rest : List Token) → Reads 0 hazards_value tokens records rest → rest ≡ []
unfolding hazards_value
no_more tokens records rest reads = reads.3.3.1 ∙ reads.3.2.1

pub value-reads : (tokens : List Token) (records : List (List Field)) → (value_records tokens ≡ Some records) ↔ Reads 0 hazards_value tokens records []
value-reads tokens records = whole-reads hazards_value no_more tokens records

-- nothing is left behind a list
no_further : (tokens : List Token) (items : List (List Token)) (rest : List Token) → Reads 0 list_value tokens items rest → rest ≡ []
unfolding list_value
no_further tokens items rest reads = reads.3.3.3.3.1 ∙ reads.3.3.3.2.1

pub list-reads : (tokens : List Token) (items : List (List Token)) → (list_items tokens ≡ Some items) ↔ Reads 0 list_value tokens items []
list-reads tokens items = whole-reads list_value no_further tokens items
