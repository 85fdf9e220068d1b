use Rattle.std.proofs.Common.{◌≡◌, true, sym, ap, ◌∙◌, rules}
use Rattle.std.specs.HashMap.{get}
use Rattle.std.specs.Map.{lookup}
use Rattle.zdd_store.specs.inner.Store.{family_of}
use Rattle.zdd_store.specs.declared.id.Id.{Id}
use Rattle.zdd_store.specs.contracts.id.IdPartialEq.TheImpl.{eq-value as id_eq}
use Rattle.zdd_families.specs.inner.Copies.{IsCopy}
use Rattle.zdd_families.proofs.Copying.{knows_more}
use Rattle.zdd_families.proofs.copies.note_copy.Goals as goal

id_exact : (a b : Id) → (id_eq).it a b ≡ true → a ≡ b
id_exact a b e = search rules

pub returns-in_err-insert-clause-known : goal.returns-in_err-insert-clause-known
returns-in_err-insert-clause-known c id copy e = c.requires.known id copy (ap (lookup (id_eq.it id)) (sym c.in_err-insert.ensures.err) ∙ e)

pub returns-clause-known : goal.returns-clause-known
returns-clause-known c =
    knows_more id_eq.it (λ id copy. IsCopy c.args.to.now (family_of c.args.from.now id) copy)
    (get id_eq.it c.args.known.now) (get id_eq.it c.insert.new.self) c.args.id c.args.copy (id_exact c.args.id) c.in_ok-insert.ensures.updates.0 c.requires.copy c.requires.known
