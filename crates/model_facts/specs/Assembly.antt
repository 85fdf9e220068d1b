-- A model put together: the components of an instance, the error model of each, and the links between them.
use Rattle.std.specs.Prelude.{ℕ, false, List, [], ◌++◌, map, filter, flat_map, length, slice_get, slice_index_or, Option, Some, None, option_map}
use Rattle.profiles.specs.declared.profile.Profile.{Profile}
use Rattle.aadl_syntax.specs.declared.core_model.PackageUnit.{PackageUnit}
use Rattle.package_index.specs.declared.id.ClassifierId.{ClassifierId}
use Rattle.error_libraries.specs.Libraries.{Table, table_of}
use Rattle.error_libraries.specs.Search.{is_number_in}
use Rattle.plain_values.specs.Numbered.{numbers_below}
use Rattle.propagation_points.specs.declared.side.Side.{Side}
use Rattle.propagation_points.specs.declared.side.Side.TheVariants.{Absent, Free, Declared}
use Rattle.propagation_points.specs.Points.{Point, side_of}
use Rattle.error_machines.specs.States.{no_states}
use Rattle.error_models.specs.declared.model.ErrorModel.{ErrorModel}
use Rattle.error_models.specs.Models.{model_of}
use Rattle.instantiator.specs.Whole.{Instance, classifier_at, instance_of, kind_number}
use Rattle.propagation_links.specs.declared.link.Link.{Link}
use Rattle.propagation_links.specs.declared.link.PointAt.{PointAt}
use Rattle.propagation_links.specs.Links.{links_of}

-- An instance, the types that its packages declare, the error model of each of its kinds, and its links.
pub record Assembly : Type 0 where
  pub instance : Instance
  pub types : Table
  pub models : List ErrorModel
  pub links : List Link

-- the points of models
abbrev pub points_in : List ErrorModel → List (List Point)
points_in models = map (λ model. model.points) models

-- an instance with these models and its links
abbrev pub with_links : Instance → Table → List ErrorModel → Assembly
with_links instance types models = record { instance = instance; types = types; models = models; links = links_of types.profile instance (points_in models) }

-- an instance with its models and its links
abbrev pub of_instance : Instance → Table → Assembly
of_instance instance types = with_links instance types (map (model_of types instance.kinds) instance.kinds)

-- The model of a root, read by a profile and put together.
abbrev pub assembly_of : Profile → List PackageUnit → ClassifierId → Assembly
assembly_of profile packages root = of_instance (instance_of packages root) (table_of profile packages)

-- ---- the error model of a component

-- the error model in which nothing happens
abbrev pub no_model : ErrorModel
no_model = record { points = []; states = no_states; behavior = record { events = []; steps = []; emissions = [] }; flows = []; sinks = []; composites = []; is_composite = false }

-- the error model of the kind of a number, with nothing where there is no kind
abbrev pub kind_model : List ErrorModel → Option ℕ → ErrorModel
kind_model models None = no_model
kind_model models (Some kind) = slice_index_or models kind no_model

-- The error model of the component of a number: that of its kind. A component without a classifier has nothing in it.
abbrev pub model_at : Assembly → ℕ → ErrorModel
model_at assembly number = kind_model assembly.models (kind_number assembly.instance.kinds (classifier_at assembly.instance number))

-- ---- the universe

-- the types that are declared for a side
abbrev pub side_numbers : Side → List ℕ
side_numbers Absent = []
side_numbers Free = []
side_numbers (Declared types) = types

-- the types that are declared for the sides of a point
abbrev pub point_numbers : Point → List ℕ
point_numbers point = side_numbers point.inward ++ side_numbers point.outward

-- the types that are declared for the points of a model
abbrev pub model_numbers : ErrorModel → List ℕ
model_numbers model = flat_map point_numbers model.points

-- the types that are declared for the points of some component
abbrev pub declared_numbers : List ErrorModel → List ℕ
declared_numbers models = flat_map model_numbers models

-- The universe: all types that are declared for a point of some component, rising. They are what may be at a free side.
abbrev pub universe_of : Assembly → List ℕ
universe_of assembly = filter (is_number_in (declared_numbers assembly.models)) (numbers_below (length assembly.types.types))

-- ---- sides

-- the side of a point of a component, if there is such a point
abbrev pub side_at : Assembly → PointAt → Option Side
side_at assembly at = option_map (side_of at.outward) (slice_get (model_at assembly at.component).points at.point)
