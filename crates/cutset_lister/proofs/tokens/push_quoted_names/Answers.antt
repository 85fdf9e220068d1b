use Rattle.std.proofs.Common.{arith}
use Rattle.std.proofs.lemmas.Result.{err_from_is_err_and}
use Rattle.std.specs.Prelude.{vec_capacity}
use Rattle.cutset_lister.specs.SetText.{quoted_name}
use Rattle.cutset_lister.proofs.Buffers.{lacks_pieces}
use Rattle.cutset_lister.proofs.tokens.push_quoted_names.Goals as goal

pub returns-in_err-push_quoted_name : goal.returns-in_err-push_quoted_name
returns-in_err-push_quoted_name c =
    let p = err_from_is_err_and c.from_residual.result c.from_residual.ensures.1 in
    rw p.1 (lacks_pieces (quoted_name c.args.system.now) c.args.events.now c.loop-event.event-index 0 c.args.to.now.items c.loop-event.to.items c.push_quoted_name.new.to.items (vec_capacity c.args.to.now)
    (vec_capacity c.loop-event.to) (vec_capacity c.push_quoted_name.new.to) (omega arith) c.loop-event.invariant c.in_err-push_quoted_name.ensures)
