-- Two readings, one after the other.
use Rattle.std.proofs.Common.{Result, Ok, sym, ◌∙◌, subst}
use Rattle.grammar_rules.specs.declared.reader.ReadError.{ReadError}
use Rattle.grammar_rules.specs.declared.reader.Reader.{Reader}
use Rattle.grammar_rules.specs.Rules.{Rule, joins}
use Rattle.grammar_rules.specs.Running.{Outcome, run, followed}
use Rattle.grammar_rules.specs.inner.Reader.{Answers, Gives}

pub joined : {A B : Type 0} {first : Rule A} {next : A → Rule B} {old middle new : Reader} {x : A} {result : Result B ReadError}
    → Gives (Ok x) first old middle → Gives result (next x) middle new → Gives result (joins first next) old new
joined {A} {B} {first} {next} {old} {middle} {new} {x} {result} gave rest = record {
  same_file = rest.same_file ∙ gave.same_file;
  answer = subst (λ (o : Outcome A). Answers result (followed o (λ v left unseen. run old.file (next v) left unseen)) new.tokens new.unseen) (sym gave.answer)
      (subst (λ f. Answers result (run f (next x) middle.tokens middle.unseen) new.tokens new.unseen) gave.same_file rest.answer);
}
