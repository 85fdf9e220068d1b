-- The text of the tree of a target, and why there is none.
use Rattle.std.specs.Prelude.{◌≡◌, ◌↔◌, ◌⊎◌, ℕ, Bool, true, false, List, Option, None, Some, find}
use Rattle.phases.specs.Phases.{IsRefusal}
use Rattle.phases.specs.declared.status.Status.{Status}
use Rattle.phases.specs.declared.status.Status.TheVariants.{Constant, Unrated}
use Rattle.fault_system.specs.Truth.{NumberSet}
use Rattle.fault_system.specs.Systems.{System, Holds, event_name, fact_name}
use Rattle.property_reader.specs.declared.rate.Rate.{Rate}
use Rattle.round_gates.specs.Targets.{HasLargeTree, IsConstantly, IsTreeFor}
use Rattle.round_gates.specs.declared.tree.Tree.{Tree}
use Rattle.merged_gates.specs.Merged.{IsMerged}
use Rattle.galileo_writer.specs.Sound.{IsSound}
use Rattle.galileo_writer.specs.Truth.{TextTrue}
use Rattle.galileo_writer.specs.TreeText.{names_of, rate_of, tree_galileo, tree_text}
use Rattle.open_psa_writer.specs.Sound.{IsSoundMef}
use Rattle.open_psa_writer.specs.TreeMef.{mef_text, tree_mef}
use Rattle.open_psa_writer.specs.Truth.{MefTrue}
use Rattle.dot_writer.specs.Picture.{is_mark}
use Rattle.dot_writer.specs.TreePicture.{dot_text}
use Rattle.dot_writer.specs.declared.sheet.Title.{Title}
use Rattle.system_answers.specs.declared.form.TreeForm.{TreeForm}
use Rattle.system_answers.specs.declared.form.TreeFormat.{TreeFormat}
use Rattle.system_answers.specs.declared.form.TreeFormat.TheVariants.{Galileo, Mef, Dot}

-- The Galileo text of a tree of a target, in which the events have these rates. Each name has one line, the top and each input have a
-- line, and no gate names an input twice. It is true for the names of a set of events exactly where the target holds under the set.
pub record IsTreeText (system : System) (rates : List Rate) (target : ℕ) (tree : Tree) (text : List ℕ) : Type 0 where
  pub text_is : text ≡ tree_text system tree rates
  pub sound : IsSound (tree_galileo system tree rates)
  pub truth : (events : NumberSet) → TextTrue text (names_of system events) ↔ Holds system events target

-- Its text in the Open-PSA Model Exchange Format: no two gates and no two events have one number, each input is defined. It is true for
-- the names of a set of events exactly where the target holds under the set.
pub record IsMefText (system : System) (rates : List Rate) (target : ℕ) (tree : Tree) (text : List ℕ) : Type 0 where
  pub text_is : text ≡ mef_text system tree rates
  pub sound : IsSoundMef (tree_mef system tree rates)
  pub truth : (events : NumberSet) → MefTrue text (names_of system events) ↔ Holds system events target

-- what its picture tells of itself: the name of the target, and the lines of the legend
abbrev pub title_of : System → ℕ → List (List ℕ) → Title
title_of system target legend = record { target = fact_name system target; legend = legend }

-- The text of a tree of a target in a format: Galileo text, the Open-PSA Model Exchange Format, or a picture with these lines in its
-- legend.
abbrev pub IsTextIn : TreeFormat → List (List ℕ) → System → List Rate → ℕ → Tree → List ℕ → Type 0
IsTextIn Galileo legend system rates target tree text = IsTreeText system rates target tree text
IsTextIn Mef legend system rates target tree text = IsMefText system rates target tree text
IsTextIn Dot legend system rates target tree text = text ≡ dot_text system tree rates (title_of system target legend)

-- a tree with its gates as they are written, or merged
abbrev pub IsShaped : Bool → Tree → Tree → Type 0
IsShaped false tree shaped = shaped ≡ tree
IsShaped true tree shaped = IsMerged tree shaped

-- The text of the tree of a target in a form.
pub record IsFormed (form : TreeForm) (system : System) (rates : List Rate) (target : ℕ) (tree : Tree) (text : List ℕ) : Type 0 where
  pub shaped : Tree
  pub is_shaped : IsShaped form.merged tree shaped
  pub is_text : IsTextIn form.format form.legend system rates target shaped text

-- The target is constant: it holds under no event (true), or fails under all events (false). Or M12: its tree may be too large.
abbrev pub LacksTree : System → ℕ → Status → Type 0
LacksTree system target status =
    ((always : Bool) × IsConstantly system target always × (status ≡ Constant always)) ⊎ IsRefusal (HasLargeTree system target) status

-- whether an event has no rate, which is the probability 1
abbrev pub is_unrated : List Rate → ℕ → Bool
is_unrated rates event = is_mark (rate_of rates event).kind (rate_of rates event).text

-- the first event of a tree that has no rate, where each must have one
abbrev pub unrated_in : Bool → List Rate → Tree → Option ℕ
unrated_in false rates tree = None
unrated_in true rates tree = find (is_unrated rates) tree.events

-- R1 with the name of such an event
abbrev pub LacksRate : Bool → System → List Rate → Tree → Status → Type 0
LacksRate rated system rates tree status = (event : ℕ) × (unrated_in rated rates tree ≡ Some event) × (status ≡ Unrated (event_name system event))
