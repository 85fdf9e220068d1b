-- The texts of the chosen reports. Each definition is given what it uses of a report's meanings, and names no box.
use Rattle.std.specs.Prelude.{ℕ, List, [], ◌∷◌, ◌++◌, Option, Some, None, codes, slice_get}
use Rattle.std.specs.List.{flat_map}

-- the heading line of a report, and its text of these sets; nothing where no report is
abbrev pub report_part : {R : Type 0} → (R → List ℕ) → (R → List (List ℕ) → List (List ℕ) → List ℕ) → List (List ℕ) → List (List ℕ) → Option R → List ℕ
report_part label_of text_of sets names None = []
report_part label_of text_of sets names (Some report) = codes "report " ++ label_of report ++ (10 ∷ []) ++ text_of report sets names

-- these parts of the chosen reports, in their order
abbrev pub reports_text : {R : Type 0} → (R → List ℕ) → (R → List (List ℕ) → List (List ℕ) → List ℕ) → List ℕ → List (List ℕ) → List (List ℕ) → List R → List ℕ
reports_text label_of text_of chosen sets names reports = flat_map (λ place. report_part label_of text_of sets names (slice_get reports place)) chosen
