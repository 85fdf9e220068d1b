use Rattle.std.proofs.Common.{ap, subst, sym, ◌∙◌}
use Rattle.plain_values.specs.declared.refusal.Stop.TheVariants.{Refused}
use Rattle.noted_refusals.specs.inner.Noted.{TellsFirst, alone, note}
use Rattle.noted_refusals.proofs.Laws.{alone-told}
use Rattle.noted_refusals.proofs.refusals.Refusals.only.Goals as goal

pub returns-in-Refused-clause-told : goal.returns-in-Refused-clause-told
returns-in-Refused-clause-told c =
    let refusal = c.in-Refused.refusal in
    subst (λ its. TellsFirst (alone its) c.note.new.self its) (sym c.in-Refused.is) (alone-told c.args.self.now.room c.note.new.self (Refused refusal) (c.note.ensures ∙ ap (λ noted. note noted refusal) c.clear.ensures))
