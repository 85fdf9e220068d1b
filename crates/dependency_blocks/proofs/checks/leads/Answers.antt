use Rattle.std.proofs.Common.{ℕ, sym, subst}
use Rattle.dependency_blocks.specs.inner.Checks.{HasMarked}
use Rattle.dependency_blocks.proofs.Passes.{leads_by}
use Rattle.dependency_blocks.proofs.checks.leads.Goals as goal

pub returns-in-Some : goal.returns-in-Some
returns-in-Some c =
    λ found. leads_by c.args.system.now c.args.numbers.now c.args.leaders.now c.args.marks.now c.args.number c.in-Some.fact.now c.requires (sym c.in-Some.ensures)
    (subst (λ (b : ℕ). HasMarked c.args.numbers.now c.args.marks.now b c.in-Some.fact.now.formula) c.number_at.ensures (c.has_marked.ensures found))
