use Rattle.std.proofs.Common.{subst, ap, ◌∙◌}
use Rattle.std.proofs.lemmas.Result.{err_from_is_err_and}
use Rattle.zdd_store.specs.inner.Store.{family_of}
use Rattle.family_renaming.specs.inner.Renaming.{name_of}
use Rattle.family_renaming.specs.inner.Splitting.{IsParted}
use Rattle.family_renaming.proofs.Firsts.{at_least_event}
use Rattle.family_renaming.proofs.Tables.{knows_in}
use Rattle.family_renaming.proofs.from_top.at_event.Goals as goal

pub returns-in_err-parts : goal.returns-in_err-parts
returns-in_err-parts c =
    let p = err_from_is_err_and c.from_residual-in_err-parts.result c.from_residual-in_err-parts.ensures.1 in
    record {
      kept = c.parts_at.ensures.parted.kept;
      knows = knows_in c.args.order.now.events c.args.store.now c.parts_at.new.store _ c.parts_at.ensures.parted.kept c.parts_at.ensures.known c.least.ensures.known c.requires.known.ordered;
      parts = rw p.1 tt;
    }

pub returns : goal.returns
returns c =
    record {
      kept = c.parts_at.ensures.parted.kept;
      knows = knows_in c.args.order.now.events c.args.store.now c.parts_at.new.store _ c.parts_at.ensures.parted.kept c.parts_at.ensures.known c.least.ensures.known c.requires.known.ordered;
      parts = at_least_event c.args.store.now c.parts_at.new.store c.args.order.now.events c.args.order.now.variables c.args.id c.in_ok-event.field-0 c.in_ok-parts.parts
          c.variables.ensures.inverse c.laws.ensures c.requires.id_in (c.in_ok-event.ensures.fits c.requires.node) c.in_ok-event.ensures.value
          (subst (λ n. IsParted c.parts_at.new.store n (family_of c.args.store.now c.args.id) c.in_ok-parts.parts)
          (c.name-number.ensures ∙ ap (λ t. name_of t c.in_ok-event.field-0) c.variables.ensures.variables) c.in_ok-parts.ensures.parted.parts);
    }
