use Rattle.std.proofs.Common.{ℕ, ◌≡◌, ◌<◌, true, length, inr, ⊎_elim, arith, below_more, ◌∙◌}
use Rattle.fault_system.specs.Truth.{Has, member, occurs}
use Rattle.fault_system.specs.declared.formula.FactInfo.{FactInfo}
use Rattle.fault_system.specs.Systems.{IsFact}
use Rattle.system_review.proofs.occurring.mark_used.Goals as goal

pub loop-number-preserved : goal.loop-number-preserved
loop-number-preserved c =
    let was = c.loop-number.invariant in
    let now = c.mark_used_by.ensures in
    record {
      size = now.size ∙ was.size;
      kept = λ m h. now.kept m (was.kept m h);
      right = λ m h. ⊎_elim (was.right m) (λ used. inr used) (now.right m h);
      done = λ n m fact less at low o.
          below_more (λ (n : ℕ). (m : ℕ) (fact : FactInfo) → IsFact c.args.system.now n fact → m < length c.args.marks.now → occurs m fact.formula ≡ true → Has (member c.mark_used_by.new.marks) m) c.loop-number.number
          (λ n l m fact at low o. now.kept m (was.done n m fact l at low o))
          (λ m fact at low o. now.done m fact at (omega (arith, was.size)) o) n less m fact at low o;
    }
