-- Small models for examples.
use Rattle.std.proofs.Common.{ℕ, Bool, false, true, List, [], ◌∷◌, codes, Option, Some, None}
use Rattle.aadl_syntax.specs.declared.core_model.Connection.{Connection}
use Rattle.aadl_syntax.specs.declared.core_model.Decl.{Decl}
use Rattle.aadl_syntax.specs.declared.core_model.Feature.{Feature}
use Rattle.aadl_syntax.specs.declared.core_model.FeatureKind.{FeatureKind}
use Rattle.aadl_syntax.specs.declared.core_model.FeatureKind.TheVariants.{Inward, Outward}
use Rattle.aadl_syntax.specs.declared.core_model.ConnectionKind.{ConnectionKind}
use Rattle.aadl_syntax.specs.declared.core_model.ConnectionKind.TheVariants.{Plain}
use Rattle.aadl_syntax.specs.declared.core_model.PackageUnit.{PackageUnit}
use Rattle.aadl_syntax.specs.declared.core_model.Subcomponent.{Subcomponent}
use Rattle.aadl_syntax.specs.declared.place.End.{End}
use Rattle.aadl_syntax.specs.declared.place.Ref.{Ref}
use Rattle.plain_values.specs.declared.spot.Spot.{Spot}
use Rattle.package_index.specs.declared.id.ClassifierId.{ClassifierId}

-- ---- parts of a text

abbrev pub spot : ℕ → Spot
spot at = record { file = 0; at = at }

-- a classifier's name of this package, perhaps with an item
abbrev pub name_at : ℕ → List ℕ → Option (List ℕ) → Ref
name_at at name item = record { names = name ∷ []; item = item; spot = spot at }

abbrev pub decl_at : ℕ → List ℕ → Option (List ℕ) → Option Ref → Decl
decl_at at name item extends = record {
  category = record { word = codes "device"; second = None };
  name = name;
  item = item;
  spot = spot at;
  extends = extends;
  binds = None;
  prototypes = None;
  features = [];
  subcomponents = [];
  connections = [];
  clauses = [];
  properties = [];
}

abbrev pub package_of : List ℕ → List Decl → PackageUnit
package_of name decls = record { name = name ∷ []; spot = spot 0; aliases = []; decls = decls; library = record { blocks = []; machines = [] } }

abbrev pub feature_of : List ℕ → FeatureKind → Feature
feature_of name kind = record { name = name; spot = spot 0; refined = false; kind = kind; array = None }

abbrev pub subcomponent_at : ℕ → List ℕ → Bool → Option Ref → Subcomponent
subcomponent_at at name refined classifier = record { name = name; spot = spot at; refined = refined; classifier = classifier; array = None; binds = None; tail = [] }

abbrev pub end_at : ℕ → List (List ℕ) → End
end_at at names = record { names = names; spot = spot at }

abbrev pub connection_of : List ℕ → ConnectionKind → End → End → Bool → Connection
connection_of name kind from to both = record { name = name; spot = spot 0; refined = false; kind = kind; ends = Some (record { from = from; to = to; both = both }); tail = [] }

abbrev pub id : ℕ → ClassifierId
id decl = record { «package» = 0; decl = decl }

-- ---- two devices that are connected both ways

-- a device with a port in and a port out
abbrev pub device_u : Decl
device_u = record (decl_at 1 (codes "u") None None) { features = feature_of (codes "i") Inward ∷ feature_of (codes "o") Outward ∷ [] }

abbrev pub system_s : Decl
system_s = decl_at 10 (codes "s") None None

-- a system of two devices, the second of this classifier
abbrev pub system_s_i : Option Ref → Decl
system_s_i second = record (decl_at 20 (codes "s") (Some (codes "i")) None) {
  subcomponents = subcomponent_at 21 (codes "a") false (Some (name_at 22 (codes "u") None)) ∷ subcomponent_at 23 (codes "b") false second ∷ [];
  connections =
      connection_of (codes "c1") Plain (end_at 31 (codes "a" ∷ codes "o" ∷ [])) (end_at 32 (codes "b" ∷ codes "i" ∷ [])) false
      ∷ connection_of (codes "c2") Plain (end_at 33 (codes "b" ∷ codes "o" ∷ [])) (end_at 34 (codes "a" ∷ codes "i" ∷ [])) false ∷ [];
}

abbrev pub device_v : Decl
device_v = decl_at 40 (codes "v") None (Some (name_at 41 (codes "u") None))

-- the system with its second device refined to another
abbrev pub system_s_j : Decl
system_s_j = record (decl_at 50 (codes "s") (Some (codes "j")) (Some (name_at 51 (codes "s") (Some (codes "i"))))) { subcomponents = subcomponent_at 52 (codes "b") true (Some (name_at 53 (codes "v") None)) ∷ [] }

-- the package of these, where the second device of the first system has this classifier
abbrev pub two_devices_with : Option Ref → List PackageUnit
two_devices_with second = package_of (codes "q") (device_u ∷ system_s ∷ system_s_i second ∷ device_v ∷ system_s_j ∷ []) ∷ []

abbrev pub two_devices : List PackageUnit
two_devices = two_devices_with (Some (name_at 24 (codes "u") None))

-- ---- a system that holds itself

abbrev pub endless : List PackageUnit
endless =
    package_of (codes "q")
    (decl_at 1 (codes "t") None None
    ∷ record (decl_at 2 (codes "t") (Some (codes "i")) None) { subcomponents = subcomponent_at 7 (codes "x") false (Some (name_at 8 (codes "t") (Some (codes "i")))) ∷ [] } ∷ []) ∷ []
