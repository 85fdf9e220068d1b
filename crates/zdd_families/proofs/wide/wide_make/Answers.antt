use Rattle.std.proofs.Common.{Ok, sym, subst}
use Rattle.zdd_store.specs.inner.Store.{family_of}
use Rattle.zdd_store.specs.inner.Answers.{IsCovering}
use Rattle.zdd_families.specs.inner.Steps.{Answered, joined}
use Rattle.zdd_families.proofs.Branchwise.{wide-branch, wide_made}
use Rattle.zdd_families.proofs.wide.wide_make.Goals as goal

pub note_wide-requires : goal.note_wide-requires
note_wide-requires c =
    wide-branch c.args.var (family_of c.args.store.now c.args.lo) (family_of c.args.store.now c.args.hi) (family_of c.make.new.self c.in_ok-made.made) c.in_ok-made.ensures.family
    c.requires.lo_greater c.requires.hi_greater c.requires.rises

pub returns : goal.returns
returns c =
    subst (λ store. Answered c.args.store.now store c.args.var (IsCovering c.args.var (joined c.args.var (family_of c.args.store.now c.args.lo) (family_of c.args.store.now c.args.hi))) (Ok c.in_ok-made.made)) (sym c.note_wide.ensures)
    (wide_made c.args.store.now c.make.new.self c.args.lo c.args.hi c.in_ok-made.made c.args.var c.make.ensures.kept c.in_ok-made.ensures.found c.in_ok-made.ensures.family c.requires.lo_greater c.requires.hi_greater)
