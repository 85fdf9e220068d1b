use Rattle.std.proofs.Common.{refl, sym, ◌∙◌, arith}
use Rattle.std.proofs.lemmas.Bool.{eqb-true, not-false}
use Rattle.std.proofs.lemmas.Option.{slice_get_within}
use Rattle.zdd_families.proofs.Ways.{Keeps_same}
use Rattle.cutset_engine.specs.inner.Filling.{Task, task_of}
use Rattle.cutset_engine.proofs.StepLaws.{step-made, step-none, same_family}
use Rattle.cutset_engine.proofs.filling.fill_fact.Goals as goal

pub returns-in_default : goal.returns-in_default
returns-in_default c =
    let task : Task = task_of c.args.setting.now in
    record { kept = Keeps_same c.args.store.now; step = step-none task c.args.store.now c.args.now.now c.args.number c.requires (sym c.in_default.ensures) }

pub bounds-now-at : goal.bounds-now-at
bounds-now-at c = omega (arith, slice_get_within c.args.setting.now.system.now.facts c.args.number c.in-Some.fact.now (sym c.in-Some.ensures), c.requires.size)

pub bounds-now-at-2 : goal.bounds-now-at-2
bounds-now-at-2 c = omega (arith, slice_get_within c.args.setting.now.system.now.facts c.args.number c.in-Some.fact.now (sym c.in-Some.ensures), c.requires.size)

pub returns : goal.returns
returns c =
    let task : Task = task_of c.args.setting.now in
    record {
      kept = c.formula_family.ensures.kept;
      step = step-made task c.args.store.now c.formula_family.new.store c.args.now.now _ c.args.number c.in-Some.fact.now c.in_ok-family.family c.ne-changed.result c.requires (sym c.in-Some.ensures) c.formula_family.ensures.kept c.in_ok-family.ensures.made refl
          (λ e. same_family c.args.now.now c.args.number c.in_ok-family.family _ (omega (arith, slice_get_within c.args.setting.now.system.now.facts c.args.number c.in-Some.fact.now (sym c.in-Some.ensures), c.requires.size)) (eqb-true _ _ (not-false _ (sym c.ne-changed.ensures ∙ e))));
    }
