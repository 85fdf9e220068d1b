use Rattle.std.proofs.Common.{◌≡◌, true, sym, subst, ◌∙◌, rules}
use Rattle.zdd_store.specs.inner.Answers.{IsAnswer}
use Rattle.zdd_store.specs.declared.question.Question.{Question}
use Rattle.zdd_store.specs.contracts.question.QuestionPartialEq.TheImpl.{eq-value as question_eq}
use Rattle.zdd_store.proofs.Entries.{right_at}
use Rattle.zdd_store.proofs.answers.answer_in.Goals as goal

question_exact : (a b : Question) → (question_eq).it a b ≡ true → a ≡ b
question_exact a b e = search rules

pub returns-then-eq : goal.returns-then-eq
returns-then-eq c = λ store right.
    subst (λ (q : Question). IsAnswer store q c.in-Some.known.answer) (question_exact c.in-Some.known.question c.args.question (sym c.eq.ensures ∙ c.if-eq.true))
    (right_at store c.args.table.now c.place.result c.in-Some.known right (sym c.in-Some.ensures))
