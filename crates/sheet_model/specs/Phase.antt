-- What is due of the model of an FMEA sheet.
use Rattle.std.specs.Prelude.{map}
use Rattle.phases.specs.Phases.{Phase, yields, ◌>>=◌}
use Rattle.event_rates.specs.Associations.{is_rated_in}
use Rattle.model_facts.specs.Assembly.{Assembly}
use Rattle.model_phases.specs.Phases.{origins_phase}
use Rattle.model_phases.specs.declared.events.EventModel.{EventModel}
use Rattle.sheet_model.specs.declared.model.SheetModel.{SheetModel}
use Rattle.sheet_model.specs.Parts.{parts_of}

-- a model with its events, of which of them it gives a rate, and what its components are
abbrev pub with_parts : Assembly → EventModel → SheetModel
with_parts assembly model = record {
  events = model;
  rated = map (is_rated_in assembly.types.profile assembly.instance) model.flat.system.events;
  parts = parts_of assembly;
}

-- The model that is put together, as a system, with what an FMEA sheet says of its events and of its components.
abbrev pub sheet_phase : Assembly → Phase SheetModel
sheet_phase assembly = do
  model ← origins_phase assembly
  yields (with_parts assembly model)
