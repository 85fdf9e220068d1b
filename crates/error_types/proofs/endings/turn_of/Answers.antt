use Rattle.std.proofs.Common.{sym, ◌∙◌, subst}
use Rattle.error_types.specs.inner.Endings.{TurnsBy}
use Rattle.error_types.proofs.EndingLaws.{comes-back}
use Rattle.error_types.proofs.endings.turn_of.Goals as goal

pub returns-in-Some-clause-turns : goal.returns-in-Some-clause-turns
returns-in-Some-clause-turns c = λ _. c.requires (c.args.id.«package», c.args.id.item) c.in-Some.end (sym c.get.ensures.value ∙ sym c.copied.ensures ∙ c.in-Some.is)

pub returns-then-has-clause-turns : goal.returns-then-has-clause-turns
returns-then-has-clause-turns c =
    λ way. subst (TurnsBy c.args.declarations.now c.args.id) (sym c.nowhere.ensures) (comes-back c.args.declarations.now c.args.way.now c.args.id way (c.has.ensures c.if-has.true))
