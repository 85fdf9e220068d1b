-- The error behavior state machine that a component uses (EMV2: `use behavior`).
use Rattle.std.specs.Prelude.{ℕ, Bool, List, position, slice_get, Option, Some, None, option_map, option_and_then, ok_or, Result, Ok, Err}
use Rattle.plain_values.specs.Name.{is_same_text}
use Rattle.aadl_syntax.specs.declared.core_model.PackageUnit.{PackageUnit}
use Rattle.aadl_syntax.specs.declared.error_model.MachineDecl.{MachineDecl}
use Rattle.aadl_syntax.specs.declared.place.Ref.{Ref}
use Rattle.plain_values.specs.declared.spot.Spot.{Spot}
use Rattle.plain_values.specs.declared.refusal.Code.{Code}
use Rattle.plain_values.specs.declared.refusal.Code.TheVariants.{UnknownMachine, UnknownPackage}
use Rattle.plain_values.specs.declared.refusal.Refusal.{Refusal}
use Rattle.package_index.specs.Lookup.{package_meant}
use Rattle.plain_values.specs.Refusal.{place_of, refusal}
use Rattle.package_index.specs.Names.{front, last}
use Rattle.component_extension.specs.declared.effective.Effective.{Effective}
use Rattle.component_extension.specs.Items.{Clause, Scoped}
use Rattle.component_extension.specs.Members.{InPackage}
use Rattle.error_machines.specs.declared.machines.MachineId.{MachineId}

-- A machine that a component uses: its declaration, and the number of its package.
abbrev pub Machine : Type 0
Machine = InPackage MachineDecl

-- whether a machine has the name
abbrev pub is_machine_named : List ℕ → MachineDecl → Bool
is_machine_named name decl = is_same_text decl.name name

-- the machine of a name in the package of a number: of two of one name the first
abbrev pub machine_in : List PackageUnit → ℕ → List ℕ → Option MachineId
machine_in packages number name =
    option_map (λ machine. record { «package» = number; machine = machine }) (option_and_then (λ unit. position (is_machine_named name) unit.library.machines) (slice_get packages number))

-- the machine of the last of the names, in the package of a number if there is one
abbrev pub machine_meant : List PackageUnit → Option ℕ → List (List ℕ) → Result MachineId Code
machine_meant packages None names = Err UnknownPackage
machine_meant packages (Some number) names = ok_or (option_and_then (machine_in packages number) (last names)) UnknownMachine

-- The machine that names mean where they stand in a package: N2 where their package is not found, N15 where it has no such
-- machine.
abbrev pub look_machine : List PackageUnit → ℕ → List (List ℕ) → Result MachineId Code
look_machine packages from names = machine_meant packages (package_meant packages (Some from) (front names)) names

-- the machine, or its refusal at the place of the names
abbrev pub machine_or : Spot → Result MachineId Code → Result (Option MachineId) Refusal
machine_or spot (Ok id) = Ok (Some id)
machine_or spot (Err code) = Err (refusal code (place_of spot))

-- the machine that a clause uses by this name; each name stands in a clause
abbrev pub machine_by : List PackageUnit → Ref → Option Clause → Result (Option MachineId) Refusal
machine_by packages name None = Ok None
machine_by packages name (Some clause) = machine_or name.spot (look_machine packages clause.«package» name.names)

-- the machine that a clause of these uses, if one does
abbrev pub machine_of : List PackageUnit → List Clause → Option (Scoped Ref) → Result (Option MachineId) Refusal
machine_of packages clauses None = Ok None
machine_of packages clauses (Some used) = machine_by packages used.item (slice_get clauses used.scope)

-- The machine that a component uses, if it uses one, or its refusal: that of the nearest clause with a `use behavior`.
abbrev pub find_machine : List PackageUnit → Effective → Result (Option MachineId) Refusal
find_machine packages effective = machine_of packages effective.clauses effective.machine

-- the declaration of a machine, with its package
abbrev pub machine_at : List PackageUnit → MachineId → Option Machine
machine_at packages id =
    option_map (λ decl. record { «package» = id.«package»; item = decl }) (option_and_then (λ unit. slice_get unit.library.machines id.machine) (slice_get packages id.«package»))
