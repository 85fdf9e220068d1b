use Rattle.std.proofs.Common.{sym, ◌∙◌, subst}
use Rattle.std.specs.Prelude.{IfSome}
use Rattle.std.proofs.lemmas.Option.{IfSome_then}
use Rattle.error_types.specs.inner.Rows.{IsOfTarget}
use Rattle.error_types.proofs.SettleLaws.{settled-target}
use Rattle.error_types.proofs.settle.look_at.Goals as goal

pub returns : goal.returns
returns c =
    let table = c.args.declarations.now in
    let memory = c.args.memory.now in
    let need = c.args.need.now in
    subst (λ target. IfSome c.settled.result (IsOfTarget table memory.rows need target c.args.first)) (sym c.in-Some.is)
    (IfSome_then c.settled.result c.settled.ensures (λ reached settled. settled-target table memory need c.in-Some.id c.args.first reached c.requires (sym c.is_stopped.ensures ∙ c.if-is_stopped.false) settled))
