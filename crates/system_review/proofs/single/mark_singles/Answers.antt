use Rattle.std.proofs.Common.{ℕ, ◌≡◌, ◌<◌, true, false, length, inr, ⊎_elim, arith, below_more, ◌∙◌}
use Rattle.fault_system.specs.Truth.{Has, member, truth}
use Rattle.fault_system.specs.Systems.{IsFact}
use Rattle.fault_system.specs.Rounds.{only}
use Rattle.fault_system.specs.declared.formula.FactInfo.{FactInfo}
use Rattle.system_review.proofs.single.mark_singles.Goals as goal

pub loop-number-preserved : goal.loop-number-preserved
loop-number-preserved c =
    let was = c.loop-number.invariant in
    let now = c.mark_singles_by.ensures in
    record {
      size = now.size ∙ was.size;
      kept = λ m h. now.kept m (was.kept m h);
      right = λ m h. ⊎_elim (was.right m) (λ begins. inr begins) (now.right m h);
      done = λ n m fact less at low none makes.
          below_more (λ (n : ℕ). (m : ℕ) (fact : FactInfo) → IsFact c.args.system.now n fact → m < length c.args.marks.now → member c.args.facts.now n ≡ false
          → truth (only m) (member c.args.facts.now) fact.formula ≡ true → Has (member c.mark_singles_by.new.marks) m) c.loop-number.number
          (λ n l m fact at low none makes. now.kept m (was.done n m fact l at low none makes))
          (λ m fact at low none makes. now.done m fact at (omega (arith, was.size)) none makes) n less m fact at low none makes;
    }
