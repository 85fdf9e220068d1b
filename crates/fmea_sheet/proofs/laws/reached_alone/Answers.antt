use Rattle.std.proofs.Common.{ℕ}
use Rattle.fault_system.proofs.Elements.{In-contains, In-filter, In-filtered, contains_In}
use Rattle.fmea_rows.proofs.RowLaws.{reached-made, reached-means}
use Rattle.fmea_rows.specs.Rows.{is_reached}
use Rattle.model_phases.specs.declared.flat.FlatModel.{FlatModel}
use Rattle.fmea_sheet.specs.Cells.{reached_by}
use Rattle.fmea_sheet.proofs.laws.reached_alone.Goals as goal

pub returns : goal.returns
returns c = λ (model : FlatModel) (event fact : ℕ). (
  (λ there.
      let both = In-filter (is_reached model.system event) fact model.effects (In-contains fact (reached_by model event) there) in
      let means = reached-means model.system event fact both.1 in
      record { is_effect = contains_In fact model.effects both.0; alone = means.0; needed = means.1 }),
  (λ is. contains_In fact (reached_by model event) (In-filtered (is_reached model.system event) fact model.effects (reached-made model.system event fact is.alone is.needed) (In-contains fact model.effects is.is_effect))),
)
