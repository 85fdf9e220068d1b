use Rattle.std.proofs.Common.{◌++◌, ◌∷◌, [], ap, sym, subst, ◌∙◌, take, arith}
use Rattle.std.proofs.lemmas.List.{take_all, take_more}
use Rattle.zdd_store.specs.inner.Family.{IsRising, covers}
use Rattle.zdd_store.proofs.Orders.{all_contained}
use Rattle.zdd_families.proofs.Pairs.{found_kept}
use Rattle.zdd_families.proofs.Ways.{Keeps_same, Keeps_trans}
use Rattle.forbidden_sets.specs.inner.Families.{Gathers}
use Rattle.forbidden_sets.proofs.Parts.{gathers-more, gathers-none}
use Rattle.forbidden_sets.proofs.families.sets_family.Goals as goal

pub set_family-requires : goal.set_family-requires
set_family-requires c = subst IsRising (sym c.items.ensures.items) (all_contained IsRising c.args.sets.now c.set-item.result c.requires (c.loop-set.set-index, c.loop-set-test.true, sym c.set-item.is))

pub wide_union-requires-clause-a_in : goal.wide_union-requires-clause-a_in
wide_union-requires-clause-a_in c = found_kept c.loop-set.store c.set_family.new.store c.loop-set.all c.set_family.ensures.kept c.loop-set.invariant.found

pub loop-set-init : goal.loop-set-init
loop-set-init c =
    let some = c.laws.ensures.some in
    gathers-none c.args.store.now (record { position = 0 }) (Keeps_same c.args.store.now) (omega (arith, some)) c.laws.ensures.empty

pub loop-set-preserved : goal.loop-set-preserved
loop-set-preserved c =
    let sets = c.args.sets.now in
    let i = c.loop-set.set-index in
    let set = c.set-item.result in
    let kept = Keeps_trans _ _ _ (Keeps_trans _ _ _ c.loop-set.invariant.kept c.set_family.ensures.kept) c.wide_union.ensures.kept in
    subst (λ front. Gathers c.args.store.now c.wide_union.new.store front c.in_ok-more.more) (sym (take_more sets i set c.loop-set-test.true ∙ ap (λ s. take i sets ++ s ∷ []) (sym c.set-item.is)))
    (gathers-more c.args.store.now c.loop-set.store c.set_family.new.store c.wide_union.new.store (take i sets) set c.loop-set.all c.in_ok-one.one c.in_ok-more.more c.loop-set.invariant c.set_family.ensures.kept kept
    (c.in_ok-one.ensures.family ∙ ap (λ s. s ∷ []) c.items.ensures.items) c.in_ok-more.ensures.found c.in_ok-more.ensures.covers)

pub returns-clause-covers : goal.returns-clause-covers
returns-clause-covers c set =
    let past = c.loop-set-test.false in
    c.loop-set.invariant.covering set ∙ ap (λ sets. covers sets set) (take_all c.loop-set.set-index c.args.sets.now (omega (arith, past)))
