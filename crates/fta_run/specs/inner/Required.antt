-- The status of a fault of requirements, and what is told of them as an output.
use Rattle.plain_values.specs.declared.refusal.Code.TheVariants.{BadRequirement, NoRequirement}
use Rattle.plain_values.specs.declared.refusal.Place.TheVariants.{Whole}
use Rattle.plain_values.specs.Refusal.{refusal}
use Rattle.phases.specs.declared.status.Status.{Status}
use Rattle.phases.specs.declared.status.Status.TheVariants as status
use Rattle.requirement_lines.specs.declared.told.RequirementFault.{RequirementFault}
use Rattle.requirement_lines.specs.declared.told.RequirementFault.TheVariants as fault
use Rattle.requirement_lines.specs.declared.told.Told.{Told}
use Rattle.fta_run.specs.Required.{Output, byte_place, mistake_code, placed_at}

-- the status of a fault
abbrev pub status_of_fault : RequirementFault → Status
status_of_fault fault.Memory = status.Memory
status_of_fault (fault.Unread at) = status.Refused (refusal BadRequirement (byte_place at))
status_of_fault (fault.Unnamed word) = status.Refused (refusal (mistake_code word.mistake) (byte_place word.at))
status_of_fault fault.NoRequirement = status.Refused (refusal NoRequirement (Whole 0))
status_of_fault (fault.TooLarge its at) = status.Refused (placed_at at its)

-- what is told, as an output
abbrev pub output_of : Told → Output
output_of told = record { text = told.text.items; met = told.all_met }
