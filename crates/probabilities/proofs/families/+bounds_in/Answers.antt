use Rattle.std.proofs.Common.{◌<◌, ◌≤◌, ◌≡◌, true, Option, None, length, inl, inr, sym, subst, rules, arith}
use Rattle.std.specs.HashMap.{get}
use Rattle.std.specs.Prelude.{IfSome}
use Rattle.zdd_store.specs.inner.Family.{least_number}
use Rattle.zdd_store.specs.inner.Store.{family_of}
use Rattle.zdd_families.proofs.Above.{least_number-most}
use Rattle.zdd_families.proofs.Pairs.{found_kept, least_kept}
use Rattle.zdd_store.specs.declared.id.Id.{Id}
use Rattle.zdd_store.specs.contracts.id.IdPartialEq.TheImpl.{eq-value as id_eq}
use Rattle.zdd_families.proofs.Ways.{Keeps_trans}
use Rattle.probabilities.specs.inner.Remembered.{IsBounded}
use Rattle.probabilities.specs.inner.Cofactors.{IsTraced}
use Rattle.probabilities.proofs.Cofactors.{node_lacks, behind_all, more_cofactors, lo_at, with_at, cofactor_kept, cofactors_kept, note_traced}
use Rattle.probabilities.proofs.Deciding.{knows_kept, node_above, node_bounded}
use Rattle.probabilities.proofs.families.+bounds_in.Goals as goal

pub bounds_in-requires-2 : goal.bounds_in-requires-2
bounds_in-requires-2 t c =
    let above : c.in-Some.node.var < least_number (family_of c.bounds_in.new.store c.in_ok-with.with) =
    node_above c.args.store.now c.min_union.new.store c.bounds_in.new.store c.args.id c.in_ok-with.with c.in-Some.node c.in-Some.ensures.fits c.in-Some.ensures.family
    c.in_ok-with.ensures.covers c.bounds_in.ensures.bounds.kept c.in_ok-with.ensures.found in
    let most : least_number (family_of c.bounds_in.new.store c.in_ok-with.with) ≤ 4294967296 = least_number-most (family_of c.bounds_in.new.store c.in_ok-with.with) in
    (omega (arith, c.in-Some.ensures.least), (found_kept c.min_union.new.store c.bounds_in.new.store c.in_ok-with.with c.bounds_in.ensures.bounds.kept c.in_ok-with.ensures.found, c.bounds_in.ensures.known))

pub note_bounds-requires-clause-bounds : goal.note_bounds-requires-clause-bounds
note_bounds-requires-clause-bounds t c =
    let s0 = c.args.store.now in
    let s1 = c.min_union.new.store in
    let s2 = c.bounds_in.new.store in
    let s3 = c.bounds_in-2.new.store in
    let node = c.in-Some.node in
    node_bounded c.args.whole c.args.rates.now s0 s1 s2 s3 c.args.id c.in_ok-with.with node c.in-Some-rate_of.rate c.in-Some-2.lo c.in-Some-3.hi c.family_step.result
    c.requires.id_in c.in-Some.ensures.fits c.in-Some.ensures.family c.in-Some.ensures.least c.min_union.ensures.kept c.bounds_in.ensures.bounds.kept
    (Keeps_trans _ _ _ (Keeps_trans _ _ _ c.min_union.ensures.kept c.bounds_in.ensures.bounds.kept) c.bounds_in-2.ensures.bounds.kept)
    (sym c.in-Some-rate_of.ensures.rate) c.in-Some-rate_of.ensures.inside c.in_ok-with.ensures.found c.in_ok-with.ensures.covers
    (subst (λ o. IfSome o (IsBounded c.args.whole c.args.rates.now (family_of s1 node.lo))) c.in-Some-2.is c.in_ok-lo.ensures.bounds.bounds)
    (subst (λ o. IfSome o (IsBounded c.args.whole c.args.rates.now (family_of s2 c.in_ok-with.with))) c.in-Some-3.is c.in_ok-hi.ensures.bounds.bounds)
    c.family_step.ensures.bounds c.family_step.ensures.narrow c.family_step.ensures.sharp

pub returns-in_err-with-clause-known : goal.returns-in_err-with-clause-known
returns-in_err-with-clause-known t c =
    knows_kept c.args.whole c.args.rates.now c.args.store.now c.min_union.new.store (get id_eq.it c.args.known.now) c.min_union.ensures.kept c.requires.known

pub bounds_in-requires : goal.bounds_in-requires
bounds_in-requires t c =
    let node = c.in-Some.node in
    let s0 = c.args.store.now in
    let s1 = c.min_union.new.store in
    let kept = c.min_union.ensures.kept in
    let same = least_kept s0 s1 node.lo kept c.in-Some.ensures.fits.lo_in in
    let above : node.var < least_number (family_of s0 node.lo) = c.in-Some.ensures.fits.lo_greater in
    let most : least_number (family_of s0 node.lo) ≤ 4294967296 = least_number-most (family_of s0 node.lo) in
    (omega (arith, c.in-Some.ensures.least), (found_kept s0 s1 node.lo kept c.in-Some.ensures.fits.lo_in, knows_kept c.args.whole c.args.rates.now s0 s1 (get id_eq.it c.args.known.now) kept c.requires.known))

pub returns-in_default-rate_of-clause-traced : goal.returns-in_default-rate_of-clause-traced
returns-in_default-rate_of-clause-traced t c root at known =
    record {
      still = known;
      none = inl (node_lacks root c.args.store.now c.args.id c.in-Some.node (length c.args.rates.now) c.laws.ensures c.in-Some.ensures.fits c.in-Some.ensures.family c.in-Some.ensures.least
          (behind_all c.args.rates.now c.in-Some.node.var (sym c.in_default-rate_of.ensures.rate)) at);
    }

reflexive : (a : Id) → (id_eq).it a a ≡ true
reflexive a = search rules

pub returns-then-len-most-clause-traced : goal.returns-then-len-most-clause-traced
returns-then-len-most-clause-traced t c root at known =
    record {
      still = known;
      none = inr (more_cofactors id_eq.it reflexive root c.args.store.now c.args.known.now.entries c.args.id c.args.most c.laws.ensures at known c.len.ensures.unique (sym c.in_default-known_bounds.ensures.value)
          (omega (arith, c.if-len-most.true, c.len.ensures.len)));
    }

pub returns-in_default-2-clause-traced : goal.returns-in_default-2-clause-traced
returns-in_default-2-clause-traced t c root at known =
    let s0 = c.args.store.now in
    let s1 = c.min_union.new.store in
    let kept = c.min_union.ensures.kept in
    let node = c.in-Some.node in
    subst (λ o. IsTraced (length c.args.rates.now) c.args.most root c.bounds_in.new.store (get id_eq.it c.bounds_in.new.known) o) c.in_default-2.is
    (c.in_ok-lo.ensures.traced root
    (lo_at root s0 s1 c.args.id c.in_ok-with.with node c.in-Some.ensures.fits c.in-Some.ensures.family c.in-Some.ensures.least c.in_ok-with.ensures.covers kept at)
    (cofactors_kept root s0 s1 (get id_eq.it c.args.known.now) kept known))

pub returns-in_default-3-clause-traced : goal.returns-in_default-3-clause-traced
returns-in_default-3-clause-traced t c root at known =
    let s0 = c.args.store.now in
    let s1 = c.min_union.new.store in
    let s2 = c.bounds_in.new.store in
    let kept = c.min_union.ensures.kept in
    let node = c.in-Some.node in
    let first = c.in_ok-lo.ensures.traced root
    (lo_at root s0 s1 c.args.id c.in_ok-with.with node c.in-Some.ensures.fits c.in-Some.ensures.family c.in-Some.ensures.least c.in_ok-with.ensures.covers kept at)
    (cofactors_kept root s0 s1 (get id_eq.it c.args.known.now) kept known) in
    subst (λ o. IsTraced (length c.args.rates.now) c.args.most root c.bounds_in-2.new.store (get id_eq.it c.bounds_in-2.new.known) o) c.in_default-3.is
    (c.in_ok-hi.ensures.traced root
    (with_at root s0 s1 s2 c.args.id c.in_ok-with.with node c.in-Some.ensures.fits c.in-Some.ensures.family c.in-Some.ensures.least c.in_ok-with.ensures.found c.in_ok-with.ensures.covers c.bounds_in.ensures.bounds.kept at)
    first.still)

pub returns-clause-traced : goal.returns-clause-traced
returns-clause-traced t c root at known =
    let s0 = c.args.store.now in
    let s1 = c.min_union.new.store in
    let s2 = c.bounds_in.new.store in
    let s3 = c.bounds_in-2.new.store in
    let kept = c.min_union.ensures.kept in
    let node = c.in-Some.node in
    let first = c.in_ok-lo.ensures.traced root
    (lo_at root s0 s1 c.args.id c.in_ok-with.with node c.in-Some.ensures.fits c.in-Some.ensures.family c.in-Some.ensures.least c.in_ok-with.ensures.covers kept at)
    (cofactors_kept root s0 s1 (get id_eq.it c.args.known.now) kept known) in
    let second = c.in_ok-hi.ensures.traced root
    (with_at root s0 s1 s2 c.args.id c.in_ok-with.with node c.in-Some.ensures.fits c.in-Some.ensures.family c.in-Some.ensures.least c.in_ok-with.ensures.found c.in_ok-with.ensures.covers c.bounds_in.ensures.bounds.kept at)
    first.still in
    let all = Keeps_trans _ _ _ (Keeps_trans _ _ _ kept c.bounds_in.ensures.bounds.kept) c.bounds_in-2.ensures.bounds.kept in
    note_traced (length c.args.rates.now) c.args.most root s3 (get id_eq.it c.note_bounds.new.known) c.family_step.result c.note_bounds.result
    (c.note_bounds.ensures.cofactors root (cofactor_kept root s0 s3 c.args.id all at) second.still) c.note_bounds.ensures.found
