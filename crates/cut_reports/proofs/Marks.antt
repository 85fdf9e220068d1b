-- Marks of the events that alone are one of the sets.
use Rattle.std.proofs.Common.{◌≡◌, ℕ, ◌<◌, Bool, false, List, [], ◌++◌, length, ap, sym, ◌∙◌, arith}
use Rattle.std.specs.Prelude.{◌||◌, if◌then◌else◌, slice_index_or}
use Rattle.std.proofs.lemmas.List.Folds.{list_any-append}
use Rattle.cut_reports.specs.inner.Singles.{MarkedAll, marked_line, single_line}
use Rattle.fta_outside.specs.Counts.{AreMarks, is_alone, is_single}

pub marked_right : (sets : List (List ℕ)) (marks : List Bool) → AreMarks marks sets → (event : ℕ) (name : List ℕ) → event < length marks
    → marked_line marks event name ≡ (if is_single sets event then single_line name else [])
marked_right sets marks are event name h = ap (λ mark. if mark then single_line name else []) (are event h)

-- the marks of other sets were set
pub marks_taken : (more before after : List Bool) (taken sets : List (List ℕ)) → length more ≡ length before → length after ≡ length before
    → MarkedAll more before after → AreMarks before taken → AreMarks more sets → AreMarks after (taken ++ sets)
marks_taken more before after taken sets fits same marked are new i h =
    marked i (omega (arith, h, same)) ∙ ap (λ b. b || slice_index_or more i false) (are i (omega (arith, h, same)))
    ∙ ap (λ b. is_single taken i || b) (new i (omega (arith, h, same, fits))) ∙ sym (list_any-append (is_alone i) taken sets)
