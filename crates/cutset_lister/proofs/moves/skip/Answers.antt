use Rattle.std.proofs.Common.{arith, refl, rules, sym}
use Rattle.cutset_lister.proofs.Skipping.{skip_begins, skipped_all, skipped_greater, skipped_none, skipped_terminal, skips_down, skips_lower}
use Rattle.cutset_lister.proofs.moves.skip.Goals as goal

pub returns-then-eq-clause-left : goal.returns-then-eq-clause-left
returns-then-eq-clause-left g c = skipped_none c.args.store.now c.args.path.now c.args.family c.args.after.now c.laws.ensures c.requires.begin (search rules)

pub loop-k-init : goal.loop-k-init
loop-k-init g c = skip_begins c.args.store.now c.args.path.now c.args.family c.args.after.now c.args.steps.now c.requires.found c.requires.begin

pub returns-in_default-clause-left : goal.returns-in_default-clause-left
returns-in_default-clause-left g c =
    skipped_terminal c.args.store.now c.args.path.now c.loop-k.path c.args.family c.loop-k.id c.args.after.now c.loop-k.k c.args.steps.now c.loop-k.steps c.laws.ensures c.loop-k.invariant c.loop-k-test.true
    (c.in_default.ensures.found c.loop-k.invariant.found)

pub returns-then-after-k-clause-left : goal.returns-then-after-k-clause-left
returns-then-after-k-clause-left g c =
    skipped_greater c.args.store.now c.args.path.now c.loop-k.path c.args.family c.loop-k.id c.in-Some.node c.args.after.now c.loop-k.k c.args.steps.now c.loop-k.steps c.laws.ensures c.loop-k.invariant c.in-Some.ensures.fits
    c.in-Some.ensures.family c.in-Some.ensures.least _ c.loop-k-test.true refl c.if-after-k.true

pub loop-k-preserved-then-node-after : goal.loop-k-preserved-then-node-after
loop-k-preserved-then-node-after g c =
    skips_down c.args.store.now c.args.path.now c.loop-k.path c.args.family c.loop-k.id c.in-Some.node c.args.after.now c.loop-k.k c.args.steps.now c.loop-k.steps c.laws.ensures c.loop-k.invariant c.in-Some.ensures.fits
    c.in-Some.ensures.family c.in-Some.ensures.least c.push.new.self c.look.new.steps c.loop-k-test.true (sym c.if-node-after.true) c.push.ensures c.in-Some.ensures.step

pub loop-k-preserved : goal.loop-k-preserved
loop-k-preserved g c =
    skips_lower c.args.store.now c.args.path.now c.loop-k.path c.args.family c.loop-k.id c.in-Some.node c.args.after.now c.loop-k.k c.args.steps.now c.loop-k.steps c.laws.ensures c.loop-k.invariant c.in-Some.ensures.fits
    c.in-Some.ensures.family c.in-Some.ensures.least _ c.look.new.steps c.loop-k-test.true refl (omega arith) c.in-Some.ensures.step

pub returns-clause-left : goal.returns-clause-left
returns-clause-left g c =
    skipped_all c.args.store.now c.args.path.now c.loop-k.path c.args.family c.loop-k.id c.args.after.now c.loop-k.k c.args.steps.now c.loop-k.steps c.laws.ensures c.loop-k.invariant (record { position = 0 }) c.loop-k-test.false refl
