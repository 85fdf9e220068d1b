use Rattle.std.proofs.Common.{refl, sym, ◌∙◌, subst}
use Rattle.std.specs.Prelude.{IfSome}
use Rattle.error_types.specs.inner.Rows.{IsGathered}
use Rattle.error_libraries.specs.Libraries.{library_scope}
use Rattle.error_types.proofs.SettleLaws.{Sums, sums-end, sums-more, sums-none}
use Rattle.error_types.proofs.settle.gather.Goals as goal
use Rattle.error_types.proofs.settle.gather.Goals.{in-Name+in_ok-reached-in-Name+in-Some, in-Passed}

pub loop-init : goal.loop-init
loop-init c = record { kept = refl; sums = sums-none c.args.declarations.now (library_scope c.args.declarations.now c.args.home) c.args.start c.args.needs _ c.new.ensures refl refl }

pub loop-preserved : goal.loop-preserved
loop-preserved c =
    let table = c.args.declarations.now in
    let rows = c.args.memory.now.rows in
    let scope = library_scope table c.args.home in
    elim c.match-next.branch [
      | in-Name+in_ok-reached-in-Name+in-Some w ↦
          let need = w.in-Name.need in
          let found = subst (λ o. IfSome o (IsGathered c.loop.declarations rows (library_scope c.loop.declarations c.args.home) need)) w.in-Some.is w.in_ok-reached-in-Name.ensures.found in
          let its = subst (λ t. IsGathered t rows (library_scope t c.args.home) need w.in-Some.reached) c.loop.invariant.kept found in
          let sums =
          sums-more table scope c.args.start c.args.needs rows c.loop.sum w.add.new.sum w.in-Some.reached need c.loop.needs c.next.new.self w.in-Name.ensures its w.add.ensures.first w.add.ensures.row w.add.ensures.depth c.loop.invariant.sums in
          record {
            kept = w.declarations-is ∙ w.look.ensures.kept ∙ c.loop.invariant.kept;
            sums = subst (λ sum. Sums table scope c.args.start c.args.needs sum c.next.new.self) (sym w.sum-is) sums;
          }
      | in-Passed w ↦ record {
        kept = w.declarations-is ∙ c.loop.invariant.kept;
        sums =
            subst (λ sum. Sums table scope c.args.start c.args.needs sum c.next.new.self) (sym w.sum-is)
            (subst (λ needs. Sums table scope c.args.start c.args.needs c.loop.sum needs) (sym w.in-Passed.ensures) c.loop.invariant.sums);
      }
    ]

pub returns-in-End-clause-sum : goal.returns-in-End-clause-sum
returns-in-End-clause-sum c = λ types is.
    sums-end c.args.declarations.now (library_scope c.args.declarations.now c.args.home) c.args.start c.args.needs c.loop.sum c.loop.needs c.in-End.ensures.0 c.loop.invariant.sums types is
