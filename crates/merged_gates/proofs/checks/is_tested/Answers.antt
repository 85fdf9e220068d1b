use Rattle.std.proofs.Common.{List, map, subst, refl}
use Rattle.round_gates.specs.declared.tree.Gate.{Gate}
use Rattle.fault_system.specs.Systems.{NamesDiffer}
use Rattle.merged_gates.specs.inner.Tests.{AreParentsOf, shape_text}
use Rattle.merged_gates.proofs.checks.is_tested.Goals as goal

pub are_right-requires : goal.are_right-requires
are_right-requires c =
    subst (λ (gates : List Gate). AreParentsOf gates c.in_ok-parents.parents.first.items c.in_ok-parents.parents.last.items c.in_ok-parents.parents.twice) c.items-gates.ensures.items c.in_ok-parents.ensures

pub returns-then-is_top : goal.returns-then-is_top
returns-then-is_top c = λ right.
    let k = c.are_right.ensures right in record {
      right = k.right;
      rise = k.rise;
      differ = subst (λ (gates : List Gate). NamesDiffer (map shape_text gates)) c.items-gates.ensures.items (c.in_ok-differ.ensures c.if-differ.true);
      reached = c.in_ok-reached.ensures c.if-reached.true;
      ranks = c.as_slice-numbers.result.now;
      later = k.later;
      top_in = c.if-is_top.ensures.inside refl;
      top_is = c.if-is_top.ensures.is refl;
    }
