use Rattle.std.proofs.Common.{◌≡◌, List, ℕ, subst}
use Rattle.phases.specs.Phases.{Passes, accepts}
use Rattle.phases.proofs.Steps.{◌beyond◌, ◌passes◌, ends, exits}
use Rattle.listing_changes.specs.Changes.{TellsChanges}
use Rattle.fta_run.proofs.compared.changes_between.Goals as goal

pub returns-in_err-before : goal.returns-in_err-before
returns-in_err-before c = exits _ _ _ _ _ c.from_residual.ensures.1 (ends c.in_err-before.ensures)

pub returns-in_err-after : goal.returns-in_err-after
returns-in_err-after c = exits _ _ _ _ _ c.from_residual-in_err-after.ensures.1 (c.in_ok-before.ensures beyond ends c.in_err-after.ensures)

pub returns-in_err-older_part : goal.returns-in_err-older_part
returns-in_err-older_part c = exits _ _ _ _ _ c.from_residual-in_err-older_part.ensures.1 (c.in_ok-before.ensures beyond (c.in_ok-after.ensures beyond ends c.in_err-older_part.ensures))

pub returns-in_err-newer_part : goal.returns-in_err-newer_part
returns-in_err-newer_part c =
    exits _ _ _ _ _ c.from_residual-in_err-newer_part.ensures.1 (c.in_ok-before.ensures beyond (c.in_ok-after.ensures beyond (c.in_ok-older_part.ensures beyond ends c.in_err-newer_part.ensures)))

pub returns : goal.returns
returns c =
    let older = c.args.older.now in
    let newer = c.args.newer.now in
    let before = c.in_ok-before.before in
    let after = c.in_ok-after.after in
    let text = c.in_ok-changes.field-0.items in
    let one = subst (λ (n : ℕ). TellsChanges older n newer c.in_ok-newer_part.newer_part.target c.args.max_order text) c.in_ok-older_part.ensures.passed.is_slice.target_is c.in_ok-changes.ensures in
    let both : TellsChanges older before newer after c.args.max_order text = subst (λ (n : ℕ). TellsChanges older before newer n c.args.max_order text) c.in_ok-newer_part.ensures.passed.is_slice.target_is one in
    let told : Passes (accepts (TellsChanges older before newer after c.args.max_order)) text = record { passed = both } in
    c.in_ok-before.ensures passes c.in_ok-after.ensures passes c.in_ok-older_part.ensures passes c.in_ok-newer_part.ensures passes told
