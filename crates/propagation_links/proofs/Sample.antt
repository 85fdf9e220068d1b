-- Small models for examples.
use Rattle.std.proofs.Common.{ℕ, Bool, false, List, [], ◌∷◌, ◌++◌, codes, Some, None}
use Rattle.aadl_syntax.specs.declared.core_model.Connection.{Connection}
use Rattle.aadl_syntax.specs.declared.core_model.Decl.{Decl}
use Rattle.aadl_syntax.specs.declared.core_model.PackageUnit.{PackageUnit}
use Rattle.aadl_syntax.specs.declared.error_model.Emv2Clause.{Emv2Clause}
use Rattle.aadl_syntax.specs.declared.error_model.UserPath.{UserPath}
use Rattle.aadl_syntax.specs.declared.token.Token.{Token}
use Rattle.aadl_syntax.specs.declared.token.TokenKind.TheVariants.{Word, Sign}
use Rattle.propagation_points.specs.declared.side.Side.{Side}
use Rattle.propagation_points.specs.declared.side.Side.TheVariants.{Absent, Free, Declared}
use Rattle.propagation_points.specs.Points.{Point}
use Rattle.instantiator.specs.Whole.{Instance, instance_of}
use Rattle.instantiator.proofs.Sample.{decl_at, end_at, id, name_at, package_of, spot, subcomponent_at}
use Rattle.propagation_links.specs.declared.link.Link.{Link}

abbrev pub point_of : List ℕ → Side → Side → Point
point_of name inward outward = record { name = name; inward = inward; outward = outward }

abbrev pub link : ℕ → ℕ → Bool → ℕ → ℕ → Bool → Link
link from from_point from_outward to to_point to_outward = record { from = record { component = from; point = from_point; outward = from_outward }; to = record { component = to; point = to_point; outward = to_outward } }

abbrev pub path_of : ℕ → List ℕ → List (List ℕ) → List (List ℕ) → UserPath
path_of at name from to = record { name = name; spot = spot at; from = end_at at from; to = end_at at to }

abbrev pub clause_of : List UserPath → Emv2Clause
clause_of paths = record {
  spot = spot 0;
  uses = [];
  machine = None;
  mappings = [];
  points = [];
  flows = [];
  events = [];
  transitions = [];
  outgoing = [];
  composites = [];
  connection_errors = [];
  user_points = [];
  user_paths = paths;
  associations = [];
}

-- a system t.i with a device d and a system w of its own, which holds a device d too; with these connections and this clause
abbrev pub system_t_i : List Connection → Emv2Clause → Decl
system_t_i connections clause = record (decl_at 10 (codes "t") (Some (codes "i")) None) {
  subcomponents = subcomponent_at 11 (codes "d") false (Some (name_at 12 (codes "d") None)) ∷ subcomponent_at 13 (codes "w") false (Some (name_at 14 (codes "w") (Some (codes "i")))) ∷ [];
  connections = connections;
  clauses = clause ∷ [];
}

abbrev pub nested : List Connection → Emv2Clause → List PackageUnit
nested connections clause =
    package_of (codes "q")
    (decl_at 1 (codes "d") None None ∷ decl_at 2 (codes "w") None None
    ∷ record (decl_at 3 (codes "w") (Some (codes "i")) None) { subcomponents = subcomponent_at 4 (codes "d") false (Some (name_at 5 (codes "d") None)) ∷ [] }
    ∷ decl_at 6 (codes "t") None None ∷ system_t_i connections clause ∷ []) ∷ []

-- its components are the root, d, w and w.d
abbrev pub instance_with : List Connection → Emv2Clause → Instance
instance_with connections clause = instance_of (nested connections clause) (id 4)

-- the points of its kinds t.i, d and w.i: the root has a port p in and a port r out, and a user's point u; a device has a port in
-- and a port out and the word `access`; and w.i has a port x both ways
abbrev pub points : List (List Point)
points =
    (point_of (codes "p") Free Absent ∷ point_of (codes "r") Absent Free ∷ point_of (codes "u") Free Free ∷ [])
    ∷ (point_of (codes "i") Free Absent ∷ point_of (codes "o") Absent Free ∷ point_of (codes "access") (Declared []) (Declared []) ∷ [])
    ∷ (point_of (codes "x") Free Free ∷ []) ∷ []

-- ---- bindings

abbrev pub word_token : List ℕ → Token
word_token text = record { kind = Word; start = 0; end = 0; text = text }

abbrev pub sign_token : List ℕ → Token
sign_token text = record { kind = Sign; start = 0; end = 0; text = text }

-- names with dots between them
abbrev pub dotted : List (List ℕ) → List Token
dotted [] = []
dotted (name ∷ []) = word_token name ∷ []
dotted (name ∷ next ∷ names) = word_token name ∷ sign_token (codes ".") ∷ dotted (next ∷ names)

-- a section that binds the component of the second path to the processor of the first
abbrev pub binding_section : List (List ℕ) → List (List ℕ) → List Token
binding_section to bound =
    word_token (codes "actual_processor_binding") ∷ sign_token (codes "=>") ∷ word_token (codes "reference") ∷ sign_token (codes "(")
    ∷ dotted to ++ (sign_token (codes ")") ∷ word_token (codes "applies") ∷ word_token (codes "to") ∷ dotted bound ++ sign_token (codes ";") ∷ [])

-- the systems t.i and w.i with these sections
abbrev pub bound_packages : List (List Token) → List (List Token) → List PackageUnit
bound_packages outer inner =
    package_of (codes "q")
    (decl_at 1 (codes "d") None None ∷ decl_at 2 (codes "w") None None
    ∷ record (decl_at 3 (codes "w") (Some (codes "i")) None) { subcomponents = subcomponent_at 4 (codes "d") false (Some (name_at 5 (codes "d") None)) ∷ []; properties = inner } ∷ decl_at 6 (codes "t") None None
    ∷ record (system_t_i [] (clause_of [])) { properties = outer } ∷ []) ∷ []

-- its components are the root, d, w and w.d
abbrev pub bound_instance : List (List Token) → List (List Token) → Instance
bound_instance outer inner = instance_of (bound_packages outer inner) (id 4)

-- a device has the words `bindings` and `processor`, both ways
abbrev pub bound_points : List (List Point)
bound_points = [] ∷ (point_of (codes "bindings") Free Free ∷ point_of (codes "processor") Free Free ∷ []) ∷ [] ∷ []
