use Rattle.std.proofs.Common.{◌≡◌, ◌∙◌, ap, arith}
use Rattle.zdd_store.specs.inner.Store.{family_of}
use Rattle.family_renaming.specs.inner.Renaming.{name_of}
use Rattle.family_renaming.specs.inner.Splitting.{least_event}
use Rattle.family_renaming.proofs.Firsts.{least-node_event, least-terminal_event}
use Rattle.family_renaming.proofs.from_top.+least.Goals as goal

pub returns-in_default-clause-value : goal.returns-in_default-clause-value
returns-in_default-clause-value t c = least-terminal_event c.args.store.now c.args.order.now.events c.args.id c.laws.ensures (c.in_default.ensures.found c.requires.id_in)

pub note_least-requires-clause-least : goal.note_least-requires-clause-least
note_least-requires-clause-least t c =
    let own : c.name-own.result ≡ name_of c.args.order.now.events c.in-Some.node.var = c.name-own.ensures ∙ ap (λ t. name_of t c.in-Some.node.var) c.events.ensures.events in
    let lo : c.in_ok-lo.lo ≡ least_event c.args.order.now.events (family_of c.args.store.now c.in-Some.node.lo) = c.in_ok-lo.ensures.value in
    let hi : c.in_ok-hi.hi ≡ least_event c.args.order.now.events (family_of c.args.store.now c.in-Some.node.hi) = c.in_ok-hi.ensures.value in
    let all = least-node_event c.args.store.now c.args.order.now.events c.args.id c.in-Some.node c.laws.ensures c.in-Some.ensures.fits c.in-Some.ensures.family in
    omega (arith, c.min.ensures, c.min-2.ensures)
