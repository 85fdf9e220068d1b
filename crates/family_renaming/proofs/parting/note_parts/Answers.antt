use Rattle.std.proofs.Common.{◌≡◌, true, sym, ap, ◌∙◌, rules}
use Rattle.std.specs.HashMap.{get}
use Rattle.std.specs.Map.{lookup}
use Rattle.zdd_store.specs.inner.Store.{IsIn, family_of}
use Rattle.family_renaming.specs.inner.Splitting.{IsParted}
use Rattle.family_renaming.specs.declared.parting.Place.{Place}
use Rattle.family_renaming.specs.contracts.parting.PlacePartialEq.TheImpl.{eq-value as place_eq}
use Rattle.zdd_families.proofs.Copying.{knows_more}
use Rattle.family_renaming.proofs.parting.note_parts.Goals as goal

place_exact : (a b : Place) → (place_eq).it a b ≡ true → a ≡ b
place_exact a b e = search rules

pub returns-in_err-insert-clause-known : goal.returns-in_err-insert-clause-known
returns-in_err-insert-clause-known c place parts e = c.requires.known place parts (ap (lookup (place_eq.it place)) (sym c.in_err-insert.ensures.err) ∙ e)

pub returns-clause-known : goal.returns-clause-known
returns-clause-known c =
    knows_more place_eq.it (λ place parts. IsIn c.args.store.now place.family × IsParted c.args.store.now place.number (family_of c.args.store.now place.family) parts)
    (get place_eq.it c.args.known.now) (get place_eq.it c.insert.new.self) c.args.place c.args.parts (place_exact c.args.place) c.in_ok-insert.ensures.updates.0 (c.requires.place, c.requires.parts) c.requires.known
