use Rattle.std.proofs.Common.{sym, ◌∙◌}
use Rattle.requirement_names.proofs.Emptiness.{none-there, some-there}
use Rattle.requirement_names.proofs.resolving.named_or_none.Goals as goal

pub returns-then-is_empty-clause-fault : goal.returns-then-is_empty-clause-fault
returns-then-is_empty-clause-fault c = (c.requires.none, sym c.items.ensures.items ∙ none-there c.items.result.now (sym c.is_empty.ensures ∙ c.if-is_empty.true))

pub returns-clause-named : goal.returns-clause-named
returns-clause-named c = record {
  none_wrong = c.requires.none;
  some = λ none. some-there c.items.result.now (sym c.is_empty.ensures ∙ c.if-is_empty.false) (c.items.ensures.items ∙ none);
  each = c.in_ok-named.ensures;
}
