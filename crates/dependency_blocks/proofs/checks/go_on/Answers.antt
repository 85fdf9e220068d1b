use Rattle.std.proofs.Common.{ℕ, ◌∙◌, sym, subst}
use Rattle.dependency_blocks.specs.inner.Checks.{MarksOf}
use Rattle.dependency_blocks.proofs.Passes.{come-mark}
use Rattle.dependency_blocks.proofs.checks.go_on.Goals as goal

pub returns-in-Some : goal.returns-in-Some
returns-in-Some c =
    come-mark c.args.system.now c.args.numbers.now c.args.leaders.now c.args.marks.now c.mark.new.marks c.args.number c.in-Some.fact.now c.requires (sym c.has.ensures ∙ c.if-has.true) (sym c.in-Some.ensures)
    (subst (λ (b : ℕ). MarksOf c.args.numbers.now b c.in-Some.fact.now.formula c.args.marks.now c.mark.new.marks) c.number_at.ensures c.mark.ensures.marks)
