use Rattle.std.proofs.Common.{length, map, ap, ◌∙◌, sym, subst}
use Rattle.derivations.specs.inner.Ordered.{IsOrder}
use Rattle.derivations.proofs.Keys.{fact_in, keys-order, keys-same}
use Rattle.derivations.proofs.ordering.order_of.Goals as goal

pub returns : goal.returns
returns c =
    let rounds = c.args.rounds.now in
    let marks = c.args.marks.now in
    let sorted = c.in_ok-sorted.sorted in
    subst (IsOrder rounds marks) (sym (c.in_ok-facts_of_keys.ensures ∙ ap (map fact_in) c.items.ensures.items))
    (keys-order rounds marks sorted c.keys_of.ensures.few c.in_ok-sorted.ensures.rising
    (keys-same rounds marks (length marks) c.in_ok-keys.keys.items sorted c.in_ok-sorted.ensures.same c.in_ok-keys.ensures.keys))
