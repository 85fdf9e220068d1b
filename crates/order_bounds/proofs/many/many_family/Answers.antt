use Rattle.std.proofs.Common.{◌+◌, ◌∙◌, ap, map, refl, sym}
use Rattle.zdd_families.specs.inner.Unions.{some_of}
use Rattle.zdd_families.proofs.Pairs.{covers-empty}
use Rattle.zdd_store.specs.inner.Store.{family_of}
use Rattle.order_bounds.proofs.Alone.{more_covered, none_more}
use Rattle.order_bounds.proofs.many.many_family.Goals as goal

pub returns-then-most-events-clause-covers : goal.returns-then-most-events-clause-covers
returns-then-most-events-clause-covers c set =
    covers-empty c.alone.new.store (record { position = 0 }) set c.laws.ensures refl ∙ sym (none_more c.args.most c.args.events.now set c.if-most-events.true)

pub returns-clause-covers : goal.returns-clause-covers
returns-clause-covers c set =
    let store = c.alone.new.store in
    c.in_ok-id.ensures.covers.covering set
    ∙ ap (λ ids. some_of (c.args.most + 1) (map (family_of store) ids) set) c.as_slice.ensures.value
    ∙ more_covered store c.args.events.now c.in_ok-ids.ids.items c.args.most set c.in_ok-ids.ensures.families
