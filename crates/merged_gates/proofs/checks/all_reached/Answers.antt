use Rattle.std.proofs.Common.{ℕ, ◌<◌, List, sym, subst}
use Rattle.round_gates.specs.declared.tree.Gate.{Gate}
use Rattle.round_gates.specs.Trees.{LeadsTo}
use Rattle.merged_gates.proofs.checks.all_reached.Goals as goal

pub returns : goal.returns
returns c = λ full n within.
    subst (λ (gates : List Gate). LeadsTo gates c.args.tree.now.top n) c.items-gates.ensures.items
    (c.in_ok-marks.ensures n (c.is_full.ensures full n (subst (λ (k : ℕ). n < k) (sym c.len_u32.ensures) within)))
