use Rattle.std.proofs.Common.{◌≡◌, true, sym, ap, ◌∙◌, rules}
use Rattle.std.specs.HashMap.{get}
use Rattle.std.specs.Map.{lookup}
use Rattle.zdd_store.specs.declared.id.Id.{Id}
use Rattle.zdd_store.specs.contracts.id.IdPartialEq.TheImpl.{eq-value as id_eq}
use Rattle.zdd_families.proofs.Copying.{knows_more}
use Rattle.probabilities.specs.inner.Remembered.{IsBoundedAt}
use Rattle.probabilities.proofs.families.note_bounds.Goals as goal

id_exact : (a b : Id) → (id_eq).it a b ≡ true → a ≡ b
id_exact a b e = search rules

pub returns-in_err-insert-clause-known : goal.returns-in_err-insert-clause-known
returns-in_err-insert-clause-known c id bounds e = c.requires.known id bounds (ap (lookup (id_eq.it id)) (sym c.in_err-insert.ensures.err) ∙ e)

pub returns-clause-known : goal.returns-clause-known
returns-clause-known c =
    knows_more id_eq.it (λ id bounds. IsBoundedAt c.args.whole c.args.rates.now c.args.store.now id bounds)
    (get id_eq.it c.args.known.now) (get id_eq.it c.insert.new.self) c.args.id c.args.bounds (id_exact c.args.id) c.in_ok-insert.ensures.updates.0 c.requires.bounds c.requires.known
