use Rattle.std.proofs.lemmas.List.Elements.{All-set}
use Rattle.zdd_store.specs.inner.Answers.{IsAnswer}
use Rattle.zdd_store.specs.declared.question.Known.{Known}
use Rattle.zdd_store.proofs.answers.put.Goals as goal

pub returns : goal.returns
returns c = λ store right answer. All-set (λ (k : Known). IsAnswer store k.question k.answer) c.args.table.now c.place-place.result c.args.known answer right
