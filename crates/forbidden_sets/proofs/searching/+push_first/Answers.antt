use Rattle.std.proofs.Common.{◌≡◌, ◌<◌, ◌≤◌, ◌∙◌, ◌++◌, ◌∷◌, [], append-nil, append_assoc, ap, map, sym, arith}
use Rattle.zdd_store.specs.inner.Family.{least_number}
use Rattle.zdd_store.specs.inner.Store.{family_at, family_of}
use Rattle.zdd_families.proofs.Above.{least_number-most}
use Rattle.forbidden_sets.proofs.Firsts.{first-of-branch}
use Rattle.forbidden_sets.proofs.searching.+push_first.Goals as goal

pub returns-in_default : goal.returns-in_default
returns-in_default t c =
    let few = c.in_default.ensures.found c.requires.found in
    let at : c.args.id.position ≡ 1 = omega (arith, few, c.requires.some) in
    ([], [], sym (append-nil c.args.set.now), ap (family_at c.args.store.now) at ∙ c.laws.ensures.unit)

pub push_first-requires : goal.push_first-requires
push_first-requires t c =
    let hi = family_of c.args.store.now c.in-Some.node.hi in
    let above : c.in-Some.node.var < least_number hi = c.in-Some.ensures.fits.hi_greater in
    let most : least_number hi ≤ 4294967296 = least_number-most hi in
    (omega (arith, c.in-Some.ensures.least, above, most), (c.in-Some.ensures.fits.hi_in, c.in-Some.ensures.fits.hi_some))

pub returns : goal.returns
returns t c =
    let its = c.in_ok-push_first.ensures in
    let node = c.in-Some.node in
    let store = c.args.store.now in (
      node.var ∷ its.0,
      map (λ set. node.var ∷ set) its.1 ++ family_of store node.lo,
      its.2 ∙ ap (λ set. set ++ its.0) c.in_ok-push.ensures.ok ∙ append_assoc c.args.set.now (node.var ∷ []) its.0,
      first-of-branch node.var (family_of store node.lo) (family_of store node.hi) (family_of store c.args.id) its.0 its.1 c.in-Some.ensures.family its.3,
    )
