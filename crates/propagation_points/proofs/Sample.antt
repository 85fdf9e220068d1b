-- A small model for examples: two packages, one of error types and one of devices.
use Rattle.std.proofs.Common.{ℕ, Bool, false, List, [], ◌∷◌, codes, Some, None}
use Rattle.aadl_syntax.specs.declared.core_model.Decl.{Decl}
use Rattle.aadl_syntax.specs.declared.core_model.Feature.{Feature}
use Rattle.aadl_syntax.specs.declared.core_model.FeatureKind.{FeatureKind}
use Rattle.aadl_syntax.specs.declared.error_model.Emv2Clause.{Emv2Clause}
use Rattle.aadl_syntax.specs.declared.error_model.Flow.{Flow}
use Rattle.aadl_syntax.specs.declared.error_model.PointItem.{PointItem}
use Rattle.aadl_syntax.specs.declared.error_model.PointRef.{PointRef}
use Rattle.aadl_syntax.specs.declared.error_model.UserPoint.{UserPoint}
use Rattle.component_extension.specs.declared.effective.Effective.{Effective}
use Rattle.component_extension.specs.Items.{clauses_of, gathered, point_key}
use Rattle.component_extension.specs.Members.{Class, connections, features, members_along, subcomponents}
use Rattle.component_extension.specs.Rows.{named}
pub use Rattle.error_libraries.proofs.Sample.{name_at, no_error_at, packages, set_at, spot, table}

-- ---- parts of a text

abbrev pub point_at : ℕ → List (List ℕ) → PointRef
point_at at names = record { names = names; spot = spot at }

-- a propagation of a set at a point
abbrev pub propagation_at : ℕ → List (List ℕ) → Bool → Bool → List (List ℕ) → PointItem
propagation_at at point negative outward types = record { point = point_at at point; negative = negative; outward = outward; set = set_at at types }

abbrev pub feature_of : List ℕ → FeatureKind → Feature
feature_of name kind = record { name = name; spot = spot 0; refined = false; kind = kind; array = None }

abbrev pub user_point_of : List ℕ → UserPoint
user_point_of name = record { name = name; spot = spot 0 }

-- a clause that uses the types of the first package
abbrev pub clause_of : List PointItem → List UserPoint → List Flow → Emv2Clause
clause_of points user_points flows = record {
  spot = spot 0;
  uses = name_at 0 (codes "l" ∷ []) ∷ [];
  machine = None;
  mappings = [];
  points = points;
  flows = flows;
  events = [];
  transitions = [];
  outgoing = [];
  composites = [];
  connection_errors = [];
  user_points = user_points;
  user_paths = [];
  associations = [];
}

-- a device with these features and this clause
abbrev pub device_of : List ℕ → List Feature → Emv2Clause → Decl
device_of name features clause = record {
  category = record { word = codes "device"; second = None };
  name = name;
  item = None;
  spot = spot 0;
  extends = None;
  binds = None;
  prototypes = None;
  features = features;
  subcomponents = [];
  connections = [];
  clauses = clause ∷ [];
  properties = [];
}

-- ---- the effective classifier of a device of the second package

abbrev pub classes_with : Decl → List Class
classes_with decl = record { «package» = 1; item = decl } ∷ []

abbrev pub effective_in : List Class → Effective
effective_in classes = record {
  chain = [];
  members = record {
    features = members_along features classes;
    subcomponents = members_along subcomponents classes;
    connections = members_along connections classes;
  };
  clauses = clauses_of classes;
  machine = None;
  propagations = record {
    points = gathered (λ clause. clause.points) point_key (clauses_of classes);
    flows = gathered (λ clause. clause.flows) (λ item. Some (named item.name)) (clauses_of classes);
    user_points = gathered (λ clause. clause.user_points) (λ item. Some (named item.name)) (clauses_of classes);
    user_paths = [];
  };
  behavior = record { events = []; transitions = []; outgoing = []; composites = [] };
  others = record { associations = []; mappings = []; connection_errors = [] };
  bindings = [];
  braced = [];
}

abbrev pub effective_of : Decl → Effective
effective_of decl = effective_in (classes_with decl)
