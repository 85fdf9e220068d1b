use Rattle.std.proofs.Common.{◌≡◌, sym, subst, rules, arith}
use Rattle.zdd_store.specs.inner.Family.{IsRising}
use Rattle.zdd_families.specs.inner.Unions.{with_number}
use Rattle.family_renaming.proofs.Puts.{rising_with}
use Rattle.family_renaming.proofs.by_listing.with.Goals as goal

pub returns-clause-rising : goal.returns-clause-rising
returns-clause-rising c up =
    let is : c.put.new.set.items ≡ with_number c.args.number c.args.set.now = search rules in
    subst IsRising (sym is) (rising_with c.args.number c.args.set.now (omega (arith, c.ranges.number.fits)) up)
