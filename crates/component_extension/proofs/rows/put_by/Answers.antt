use Rattle.std.proofs.Common.{◌<◌, sym, ap, ◌∙◌, length, cond, Some, subst}
use Rattle.std.specs.HashMap.{get}
use Rattle.component_extension.specs.inner.Rows.{KnowsRows, same_words}
use Rattle.component_extension.proofs.RowLaws.{knows-push, knows-set, place-within}
use Rattle.component_extension.proofs.rows.put_by.Goals as goal

pub index_mut-requires : goal.index_mut-requires
index_mut-requires g c = subst (λ n. c.in-Some.place < n) (sym (ap length c.as_slice-count.ensures.value) ∙ c.as_slice-count.ensures.len) (place-within g.R.Row.key c.args.rows.now.items c.args.row (get same_words c.args.places.now) c.requires.knows c.args.key c.requires.key c.in-Some.place (sym c.get.ensures.value ∙ sym c.copied.ensures ∙ c.in-Some.is))

pub returns-in-Some-clause-knows : goal.returns-in-Some-clause-knows
returns-in-Some-clause-knows g c = knows-set g.R.Row.key c.args.rows.now.items c.args.row (get same_words c.args.places.now) c.requires.knows c.args.key c.requires.key c.in-Some.place (sym c.get.ensures.value ∙ sym c.copied.ensures ∙ c.in-Some.is)

pub returns-in_ok-push-in-None-clause-knows : goal.returns-in_ok-push-in-None-clause-knows
returns-in_ok-push-in-None-clause-knows g c =
    subst (λ rows. KnowsRows g.R.Row.key rows (get same_words c.insert.new.self)) (sym c.in_ok-push-in-None.ensures.items)
    (knows-push g.R.Row.key c.args.rows.now.items c.args.row (get same_words c.args.places.now) c.requires.knows c.args.key c.requires.key (get same_words c.insert.new.self)
    (sym c.get.ensures.value ∙ sym c.copied.ensures ∙ c.in-None.is) (λ other. c.in_ok-insert-in-None.ensures.updates.0 other ∙ ap (λ n. cond (same_words c.args.key other) (Some n) (get same_words c.args.places.now other)) (ap length c.as_slice-count.ensures.value)))
