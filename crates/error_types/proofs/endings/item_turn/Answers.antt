use Rattle.std.proofs.Common.{sym, ap, ◌∙◌}
use Rattle.std.specs.Prelude.{option_copied}
use Rattle.std.proofs.lemmas.Result.{IfOk-weaker}
use Rattle.error_types.proofs.EndingLaws.{alias-turns}
use Rattle.error_types.proofs.endings.item_turn.Goals as goal

pub returns-in-Alias-clause-turns : goal.returns-in-Alias-clause-turns
returns-in-Alias-clause-turns c =
    IfOk-weaker c.alias_turn.result _ _
    (λ turn leads. alias-turns c.args.declarations.now c.args.id c.in-Some.item.now c.in-Alias.target (sym c.item.ensures ∙ ap option_copied c.in-Some.is) c.in-Alias.is turn leads) c.alias_turn.ensures.turns
