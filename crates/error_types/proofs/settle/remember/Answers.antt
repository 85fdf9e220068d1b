use Rattle.std.proofs.Common.{ℕ, sym, ap, ◌∙◌, subst}
use Rattle.std.specs.HashMap.{get}
use Rattle.std.specs.Map.{lookup}
use Rattle.package_index.specs.inner.Tables.{same_pair}
use Rattle.error_libraries.specs.declared.id.ItemId.{ItemId}
use Rattle.error_types.specs.inner.Rows.{IsReached}
use Rattle.error_libraries.proofs.Keys.{number_same}
use Rattle.error_libraries.proofs.Remembering.{remembered-more}
use Rattle.error_types.proofs.settle.remember.Goals as goal

abbrev id_of : ℕ × ℕ → ItemId
id_of key = record { «package» = key.0; item = key.1 }

pub returns-in_err-insert-clause-memory : goal.returns-in_err-insert-clause-memory
returns-in_err-insert-clause-memory c = record {
  types = c.requires.memory.types;
  items = λ key reached there. c.requires.memory.items key reached (ap (lookup (same_pair key)) (sym c.in_err-insert.ensures.err) ∙ there);
}

pub returns-clause-memory : goal.returns-clause-memory
returns-clause-memory c =
    let table = c.args.declarations.now in
    let rows = c.args.memory.now.rows in
    let key : ℕ × ℕ = (c.args.id.«package», c.args.id.item) in
    record {
      types = c.requires.memory.types;
      items =
          remembered-more same_pair (λ other reached. IsReached table rows (id_of other) reached) (get same_pair c.args.memory.now.items) (get same_pair c.insert.new.self) key c.args.reached c.in_ok-insert.ensures.updates.0
          (λ other same. subst (λ k. IsReached table rows (id_of k) c.args.reached) (number_same key other same) c.requires.reached) c.requires.memory.items;
    }
