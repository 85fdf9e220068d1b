use Rattle.std.proofs.Common.{◌≡◌, ◌<◌, ◌∷◌, sym, ap, subst, ◌∙◌}
use Rattle.zdd_store.specs.inner.Family.{branch, least_of, least_number}
use Rattle.zdd_store.specs.inner.Store.{family_of, family_at}
use Rattle.zdd_store.proofs.Branches.{branch-empty}
use Rattle.zdd_store.proofs.Growing.{Keeps-same}
use Rattle.family_renaming.specs.inner.Lists.{HasOneMore}
use Rattle.family_renaming.proofs.Added.{one_more_lo, one_more_hi, grown, above_more, empty_above, before_first, node_above, terminal_above}
use Rattle.family_renaming.proofs.by_listing.+with_set.Goals as goal
use Rattle.family_renaming.proofs.by_listing.+with_set.Goals.{in_default-look-via-in-Some-2+else-node-first-2, in_default-look-via-in_default-look}

pub make-requires-clause-lo_greater : goal.make-requires-clause-lo_greater
make-requires-clause-lo_greater t c =
    above_more c.with_set.new.store c.args.set.now (family_of c.args.store.now c.in-Some-look.node.lo) c.in_ok-lo-in-Some-look.lo c.in-Some-look.node.var
    (before_first c.in-Some-look.node.var c.in-Some.first c.in-Some.rest.now c.args.set.now c.in-Some.ensures.some.0 c.in-Some.ensures.some.1.1 c.if-node-first.true)
    c.in-Some-look.ensures.fits.lo_greater c.in_ok-lo-in-Some-look.ensures.answer

pub returns-in_ok-lo-in-Some-look : goal.returns-in_ok-lo-in-Some-look
returns-in_ok-lo-in-Some-look t c =
    grown c.args.store.now c.with_set.new.store c.make.new.self c.args.set.now c.args.id c.make.result c.with_set.ensures.kept c.make.ensures.kept c.make.ensures.found c.make.ensures.family
    (λ answer answer_in made.
    one_more_lo c.args.store.now c.with_set.new.store c.make.new.self c.args.id c.in-Some-look.node c.args.set.now c.in_ok-lo-in-Some-look.lo answer
    c.in-Some-look.ensures.fits c.in-Some-look.ensures.family c.in-Some-look.ensures.least
    (before_first c.in-Some-look.node.var c.in-Some.first c.in-Some.rest.now c.args.set.now c.in-Some.ensures.some.0 c.in-Some.ensures.some.1.1 c.if-node-first.true)
    c.with_set.ensures.kept c.in_ok-lo-in-Some-look.ensures.answer answer_in made)

pub returns-in_ok-hi-in-Some-2 : goal.returns-in_ok-hi-in-Some-2
returns-in_ok-hi-in-Some-2 t c =
    let node = c.in-Some-look.node in
    let same : node.var ≡ c.in-Some.first = c.if-node-first-2.true in
    grown c.args.store.now c.with_set-in-Some-2.new.store c.make-in-Some-2.new.self c.args.set.now c.args.id c.make-in-Some-2.result
    c.with_set-in-Some-2.ensures.kept c.make-in-Some-2.ensures.kept c.make-in-Some-2.ensures.found c.make-in-Some-2.ensures.family
    (λ answer answer_in made.
    subst (λ s. HasOneMore c.make-in-Some-2.new.self s (family_of c.args.store.now c.args.id) answer) (sym (c.in-Some.ensures.some.0 ∙ ap (λ n. n ∷ c.in-Some.rest.now) (sym same)))
    (one_more_hi c.args.store.now c.with_set-in-Some-2.new.store c.make-in-Some-2.new.self (family_of c.args.store.now c.args.id) node.var c.in-Some.rest.now node.lo node.hi c.in_ok-hi-in-Some-2.hi answer
    c.in-Some-look.ensures.fits.lo_in c.in-Some-look.ensures.fits.lo_greater c.in-Some-look.ensures.fits.hi_greater (subst (λ n. n < least_of c.in-Some.rest.now) (sym same) c.in-Some.ensures.some.1.1)
    c.in-Some-look.ensures.family c.with_set-in-Some-2.ensures.kept c.in_ok-hi-in-Some-2.ensures.answer answer_in made))

pub make-requires-in_default-look-clause-lo_greater : goal.make-requires-in_default-look-clause-lo_greater
make-requires-in_default-look-clause-lo_greater t c =
    let above : c.in-Some.first < least_number (family_of c.args.store.now c.args.id) = elim c.in_default-look.branch [
      | in_default-look-via-in-Some-2+else-node-first-2 w ↦ node_above w.in-Some-look.node.var c.in-Some.first (family_of c.args.store.now c.args.id) w.in-Some-look.ensures.least w.if-node-first.false w.if-node-first-2.false
      | in_default-look-via-in_default-look w ↦ terminal_above c.args.store.now c.args.id c.in-Some.first c.in-Some.rest.now c.laws.ensures (w.in_default-look.ensures.found c.requires.id_in) c.in-Some.ensures.some.1.1
    ] in
    subst (λ f. c.in-Some.first < least_number f) (sym (c.set_alone.ensures.kept.same c.args.id.position c.requires.id_in)) above

pub make-requires-in_default-look-clause-hi_greater : goal.make-requires-in_default-look-clause-hi_greater
make-requires-in_default-look-clause-hi_greater t c =
    above_more c.set_alone.new.store c.in-Some.rest.now (family_at c.args.store.now 0) c.in_ok-hi-in_default-look.hi c.in-Some.first c.in-Some.ensures.some.1.1
    (empty_above c.args.store.now c.args.store.now c.in-Some.first c.in-Some.rest.now c.laws.ensures (Keeps-same c.args.store.now) c.in-Some.ensures.some.1.1) c.in_ok-hi-in_default-look.ensures.answer

pub returns-in_ok-hi-in_default-look : goal.returns-in_ok-hi-in_default-look
returns-in_ok-hi-in_default-look t c =
    let above : c.in-Some.first < least_number (family_of c.args.store.now c.args.id) = elim c.in_default-look.branch [
      | in_default-look-via-in-Some-2+else-node-first-2 w ↦ node_above w.in-Some-look.node.var c.in-Some.first (family_of c.args.store.now c.args.id) w.in-Some-look.ensures.least w.if-node-first.false w.if-node-first-2.false
      | in_default-look-via-in_default-look w ↦ terminal_above c.args.store.now c.args.id c.in-Some.first c.in-Some.rest.now c.laws.ensures (w.in_default-look.ensures.found c.requires.id_in) c.in-Some.ensures.some.1.1
    ] in
    grown c.args.store.now c.set_alone.new.store c.make-in_default-look.new.self c.args.set.now c.args.id c.make-in_default-look.result
    c.set_alone.ensures.kept c.make-in_default-look.ensures.kept c.make-in_default-look.ensures.found c.make-in_default-look.ensures.family
    (λ answer answer_in made.
    subst (λ s. HasOneMore c.make-in_default-look.new.self s (family_of c.args.store.now c.args.id) answer) (sym c.in-Some.ensures.some.0)
    (one_more_hi c.args.store.now c.set_alone.new.store c.make-in_default-look.new.self (family_of c.args.store.now c.args.id) c.in-Some.first c.in-Some.rest.now c.args.id (record { position = 0 }) c.in_ok-hi-in_default-look.hi answer
    c.requires.id_in above
    (empty_above c.args.store.now c.args.store.now c.in-Some.first c.in-Some.rest.now c.laws.ensures (Keeps-same c.args.store.now) c.in-Some.ensures.some.1.1) c.in-Some.ensures.some.1.1
    (sym (ap (branch c.in-Some.first (family_of c.args.store.now c.args.id)) c.laws.ensures.empty ∙ branch-empty c.in-Some.first (family_of c.args.store.now c.args.id)))
    c.set_alone.ensures.kept c.in_ok-hi-in_default-look.ensures.answer answer_in made))
