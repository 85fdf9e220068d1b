use Rattle.std.proofs.Common.{ℕ, sym, subst}
use Rattle.backward_slice.specs.Slices.{DependsOn}
use Rattle.dependency_blocks.proofs.Passes.{come-put, depends_self}
use Rattle.dependency_blocks.proofs.checks.begin.Goals as goal

pub returns-then-is_first : goal.returns-then-is_first
returns-then-is_first c =
    come-put c.args.system.now c.args.numbers.now c.args.leaders.now c.args.marks.now c.put.new.self c.args.number c.requires c.put.ensures
    (subst (λ (x : ℕ). DependsOn c.args.system.now x c.args.number) (sym (c.is_first.ensures c.if-is_first.true)) (depends_self c.args.system.now c.args.number))
