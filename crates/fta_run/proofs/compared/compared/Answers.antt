use Rattle.std.proofs.Common.{List, ℕ, drop, take}
use Rattle.phases.specs.inner.Meets.{IsMemory}
use Rattle.phases.specs.Phases.{chains}
use Rattle.phases.proofs.Steps.{◌beyond◌, ends, exits, meets_later}
use Rattle.model_phases.specs.declared.flat.FlatModel.{FlatModel}
use Rattle.fta_run.specs.Compared.{compared_text}
use Rattle.fta_run.specs.Due.{model_of_texts}
use Rattle.fta_run.specs.Later.{in_later_files}
use Rattle.fta_run.proofs.compared.compared.Goals as goal

pub returns-in_err-older : goal.returns-in_err-older
returns-in_err-older c = exits _ _ _ _ _ c.from_residual.ensures.1 (ends c.in_err-older.ensures)

pub returns-in_err-newer : goal.returns-in_err-newer
returns-in_err-newer c = exits _ _ _ _ _ c.from_residual-in_err-newer.ensures.1 (c.in_ok-older.ensures beyond ends c.in_err-newer.ensures)

pub returns : goal.returns
returns c =
    let first = model_of_texts c.args.profile c.args.root.now (take c.args.count c.args.texts) in
    let second = in_later_files c.args.count (model_of_texts c.args.profile c.args.root.now (drop c.args.count c.args.texts)) in
    let told = λ (older newer : FlatModel). compared_text c.args.target.now c.args.max_order older.system newer.system in
    meets_later IsMemory (λ text. text.items) first (λ older. chains second (told older)) c.in_ok-older.older c.changes_between.result (λ s memory. memory) c.in_ok-older.ensures
    (meets_later IsMemory (λ text. text.items) second (told c.in_ok-older.older) c.in_ok-newer.newer c.changes_between.result (λ s memory. memory) c.in_ok-newer.ensures c.changes_between.ensures)
