-- The text of a tree in a form, from its parts.
use Rattle.std.proofs.Common.{◌⊎◌, inl, inr, ℕ, List}
use Rattle.phases.specs.Phases.{Passes, Stops}
use Rattle.phases.specs.declared.status.Status.{Status}
use Rattle.fault_system.specs.Systems.{System}
use Rattle.property_reader.specs.declared.rate.Rate.{Rate}
use Rattle.round_gates.specs.declared.tree.Tree.{Tree}
use Rattle.system_answers.specs.Texts.{formed_tree, rated_tree, tree_for}
use Rattle.system_answers.specs.Trees.{IsShaped, IsTextIn}
use Rattle.system_answers.specs.declared.form.TreeForm.{TreeForm}

module _ (number : ℕ) (form : TreeForm) (system : System) (rates : List Rate) (tree : Tree) (for : Passes (tree_for number system) tree) where
  pub formed_stop : {X : Type 0} (status : Status) → Stops (rated_tree form.rated system rates tree) status ⊎ X → Stops (formed_tree number form system rates) status ⊎ X
  formed_stop {X} status (inl s) = inl (record { stopped = inr (tree, for.passed, inl s.stopped) })
  formed_stop {X} status (inr e) = inr e

  pub formed_passes : (shaped : Tree) (text : List ℕ) → Passes (rated_tree form.rated system rates tree) tt → IsShaped form.merged tree shaped → IsTextIn form.format form.legend system rates number shaped text → Passes (formed_tree number form system rates) text
  formed_passes shaped text rated is_shaped is_text = record { passed = (tree, for.passed, (tt, rated.passed, record { shaped = shaped; is_shaped = is_shaped; is_text = is_text })) }
