-- How far a page was written.
use Rattle.std.specs.Prelude.{ℕ, ◌≡◌, ◌≤◌, List, ◌++◌, Option}
use Rattle.fault_system.specs.Systems.{System}
use Rattle.fta_outside.specs.Outside.{Seen, Took}
use Rattle.cutset_writer.specs.Text.{marked_text, more_line}
use Rattle.cutset_writer.specs.declared.form.SetForm.{SetForm}

-- Of the page of some sets a front was written, and what is left is the page of the sets that are left, behind the set that the line
-- `more` names.
pub record IsWritten (form : SetForm) (system : System) (key last : Option (List ℕ)) (limit : Option ℕ) (sets : List (List ℕ)) (before after : Seen) (more : List ℕ) (limit_left : Option ℕ) (sets_left : List (List ℕ)) : Type 0 where
  pub front : List ℕ
  pub taken : Took front before after
  pub place : Option (List ℕ)
  pub named : more ≡ more_line key system place
  pub rest : marked_text form system key last limit sets ≡ front ++ marked_text form system key place limit_left sets_left
  pub faults : before.faults ≤ after.faults
