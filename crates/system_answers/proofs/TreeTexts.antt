-- The texts of a tree are those of its target.
use Rattle.std.proofs.Common.{◌↔◌, ℕ, List, refl}
use Rattle.fault_system.specs.Truth.{NumberSet}
use Rattle.fault_system.specs.Systems.{System, Holds}
use Rattle.property_reader.specs.declared.rate.Rate.{Rate}
use Rattle.round_gates.specs.declared.tree.Tree.{Tree}
use Rattle.round_gates.specs.inner.Trees.{TreeHolds}
use Rattle.galileo_writer.specs.Sound.{IsSound}
use Rattle.galileo_writer.specs.Truth.{TextTrue}
use Rattle.galileo_writer.specs.TreeText.{names_of, tree_galileo, tree_text}
use Rattle.open_psa_writer.specs.Sound.{IsSoundMef}
use Rattle.open_psa_writer.specs.TreeMef.{mef_text, tree_mef}
use Rattle.open_psa_writer.specs.Truth.{MefTrue}
use Rattle.system_answers.specs.Trees.{IsMefText, IsTreeText}
use Rattle.system_answers.specs.inner.Forms.{IsTrueFor}

both : {A B C : Type 0} → A ↔ B → B ↔ C → A ↔ C
both {A} {B} {C} f g = (λ a. g.0 (f.0 a), λ c. f.1 (g.1 c))

module _ (system : System) (tree : Tree) (rates : List Rate) (target : ℕ) (for : IsTrueFor system target tree) where
  pub galileo_of_target : IsSound (tree_galileo system tree rates) → ((events : NumberSet) → TextTrue (tree_text system tree rates) (names_of system events) ↔ TreeHolds tree events)
      → IsTreeText system rates target tree (tree_text system tree rates)
  galileo_of_target sound truth = record { text_is = refl; sound = sound; truth = λ events. both (truth events) (for events) }

  pub mef_of_target : IsSoundMef (tree_mef system tree rates) → ((events : NumberSet) → MefTrue (mef_text system tree rates) (names_of system events) ↔ TreeHolds tree events)
      → IsMefText system rates target tree (mef_text system tree rates)
  mef_of_target sound truth = record { text_is = refl; sound = sound; truth = λ events. both (truth events) (for events) }
