use Rattle.std.proofs.Common.{sym, subst}
use Rattle.std.specs.Prelude.{IfOk}
use Rattle.std.proofs.lemmas.Result.{err_from_is_err_and}
use Rattle.zdd_store.specs.inner.Store.{Keeps}
use Rattle.zdd_families.proofs.Ways.{Keeps_four}
use Rattle.family_renaming.specs.inner.Splitting.{IsOrdered}
use Rattle.family_renaming.proofs.Firsts.{ordered_made}
use Rattle.family_renaming.proofs.Tables.{all_kept}
use Rattle.family_renaming.proofs.from_top.+ordered.Goals as goal

pub returns-in_err-answer : goal.returns-in_err-answer
returns-in_err-answer t c =
    let p = err_from_is_err_and c.from_residual-in_err-answer.result c.from_residual-in_err-answer.ensures.1 in
    record {
      kept = Keeps_four c.args.store.now c.at_event.new.store c.ordered.new.store c.ordered-2.new.store c.make.new.self c.at_event.ensures.kept c.ordered.ensures.kept c.ordered-2.ensures.kept c.make.ensures.kept;
      knows = all_kept c.args.order.now.events c.ordered-2.new.store c.make.new.self c.ordered-2.new.known c.make.ensures.kept c.ordered-2.ensures.knows;
      answer = rw p.1 tt;
    }

pub note_ordered-requires-clause-ordered : goal.note_ordered-requires-clause-ordered
note_ordered-requires-clause-ordered t c =
    let kept : Keeps c.args.store.now c.make.new.self =
    Keeps_four c.args.store.now c.at_event.new.store c.ordered.new.store c.ordered-2.new.store c.make.new.self c.at_event.ensures.kept c.ordered.ensures.kept c.ordered-2.ensures.kept c.make.ensures.kept in
    subst (λ f. IsOrdered c.make.new.self c.args.order.now.events f c.in_ok-answer.answer) (sym (kept.same c.args.id.position c.requires.id_in))
    (ordered_made c.args.store.now c.at_event.new.store c.ordered.new.store c.ordered-2.new.store c.make.new.self c.args.order.now.events c.args.id c.in_ok-parts.parts c.in_ok-lo.lo c.in_ok-hi.hi c.in_ok-answer.answer
    c.in_ok-parts.ensures.parts c.ordered.ensures.kept c.ordered-2.ensures.kept c.in_ok-lo.ensures.answer c.in_ok-hi.ensures.answer c.in_ok-answer.ensures.found c.in_ok-answer.ensures.family)

pub note_ordered-requires-clause-known : goal.note_ordered-requires-clause-known
note_ordered-requires-clause-known t c = (all_kept c.args.order.now.events c.ordered-2.new.store c.make.new.self c.ordered-2.new.known c.make.ensures.kept c.ordered-2.ensures.knows).ordered

pub returns : goal.returns
returns t c =
    let kept : Keeps c.args.store.now c.make.new.self =
    Keeps_four c.args.store.now c.at_event.new.store c.ordered.new.store c.ordered-2.new.store c.make.new.self c.at_event.ensures.kept c.ordered.ensures.kept c.ordered-2.ensures.kept c.make.ensures.kept in
    let knows = all_kept c.args.order.now.events c.ordered-2.new.store c.make.new.self c.ordered-2.new.known c.make.ensures.kept c.ordered-2.ensures.knows in
    record {
      kept = kept;
      knows = record { parts = knows.parts; least = knows.least; ordered = c.note_ordered.ensures.known };
      answer = subst (λ f. IfOk c.note_ordered.result (IsOrdered c.make.new.self c.args.order.now.events f)) (kept.same c.args.id.position c.requires.id_in) c.note_ordered.ensures.ordered;
    }
