use Rattle.std.proofs.Common.{List, Bool, ◌∙◌, sym, subst}
use Rattle.std.proofs.lemmas.Bool.{false≢true}
use Rattle.fault_system.specs.Truth.{Has, member}
use Rattle.fault_system.proofs.NumberSets.{member-replicate}
use Rattle.target_orders.proofs.LargeLaws.{small-all}
use Rattle.target_orders.proofs.sizes.all_small.Goals as goal

pub returns : goal.returns
returns c = record {
  large_are = λ n has. absurd (false≢true (sym (member-replicate 0 n) ∙ subst (λ (marks : List Bool). Has (member marks) n) c.in_ok-large.ensures has));
  small_are = λ n _. small-all c.args.system.now c.requires.facts c.requires.events n;
}
