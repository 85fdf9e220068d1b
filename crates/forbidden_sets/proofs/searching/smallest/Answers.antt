use Rattle.std.proofs.Common.{◌≡◌, ◌+◌, ◌∙◌, [], MatchOption, ap, sym, subst, arith}
use Rattle.zdd_store.specs.inner.Answers.{sets_of}
use Rattle.zdd_store.specs.inner.Store.{family_of}
use Rattle.zdd_families.proofs.Pairs.{found_kept}
use Rattle.zdd_families.proofs.Ways.{Keeps_same, Keeps_trans}
use Rattle.forbidden_sets.specs.inner.Families.{IsHead}
use Rattle.forbidden_sets.proofs.Firsts.{first-of-size, none-of-size}
use Rattle.forbidden_sets.proofs.searching.smallest.Goals as goal

pub of_size-requires : goal.of_size-requires
of_size-requires c = found_kept c.args.store.now c.loop-size.store c.args.id c.loop-size.invariant.kept c.requires.found

pub loop-size-init : goal.loop-size-init
loop-size-init c = record { kept = Keeps_same c.args.store.now; none = λ set here short. let some = (c.requires.sizes set here).0 in absurd (omega (arith, some, short)) }

pub loop-size-preserved : goal.loop-size-preserved
loop-size-preserved c =
    let family = family_of c.args.store.now c.args.id in
    let same = c.loop-size.invariant.kept.same c.args.id.position c.requires.found in
    let part = family_of c.of_size.new.store c.in_ok-part.part in
    record {
      kept = Keeps_trans _ _ _ c.loop-size.invariant.kept c.of_size.ensures.kept;
      none = none-of-size (c.loop-size.size + 1) family part (c.in_ok-part.ensures.family ∙ ap (sets_of (c.loop-size.size + 1)) same)
          (subst (λ found. MatchOption found (part ≡ []) (IsHead part)) c.in_default.is c.in_ok-found.ensures) c.loop-size.invariant.none;
    }

pub returns-in-Some-clause-first : goal.returns-in-Some-clause-first
returns-in-Some-clause-first c =
    let family = family_of c.args.store.now c.args.id in
    let same = c.loop-size.invariant.kept.same c.args.id.position c.requires.found in
    let part = family_of c.of_size.new.store c.in_ok-part.part in
    first-of-size (c.loop-size.size + 1) family part c.in-Some.set (c.in_ok-part.ensures.family ∙ ap (sets_of (c.loop-size.size + 1)) same)
    (subst (λ found. MatchOption found (part ≡ []) (IsHead part)) c.in-Some.is c.in_ok-found.ensures) c.loop-size.invariant.none

pub returns-clause-first : goal.returns-clause-first
returns-clause-first c = λ set here.
    let past = c.loop-size-test.false in
    let few = (c.requires.sizes set here).1 in
    c.loop-size.invariant.none set here (omega (arith, past, few))
