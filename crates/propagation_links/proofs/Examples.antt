-- Small examples of the definitions, each proved by computing it.
use Rattle.std.proofs.Common.{ℕ, ◌≡◌, Bool, true, false, List, [], ◌∷◌, codes, Option, Some, None, refl}
use Rattle.aadl_syntax.specs.declared.core_model.Connection.{Connection}
use Rattle.aadl_syntax.specs.declared.core_model.ConnectionKind.{ConnectionKind}
use Rattle.aadl_syntax.specs.declared.core_model.ConnectionKind.TheVariants.{Plain, Access}
use Rattle.aadl_syntax.specs.declared.error_model.UserPath.{UserPath}
use Rattle.plain_values.specs.declared.refusal.Code.TheVariants.{ConnectionError, FeatureGroup, UnknownEnd}
use Rattle.plain_values.specs.declared.refusal.Place.TheVariants.{At}
use Rattle.plain_values.specs.declared.refusal.Refusal.{Refusal}
use Rattle.plain_values.specs.Refusal.{refusal}
use Rattle.bindings.specs.Bindings.{abstract_word, binding, binding_end, binding_name, binding_word, applied_targets, binding_targets, other_word, dotted_name, path, reference, references, targets}
use Rattle.component_extension.specs.Chain.{chain_from}
use Rattle.grammar_rules.specs.Spans.{closes, is_even, opens}
use Rattle.grammar_rules.specs.Tokens.{identifier, is_identifier, is_kind, is_sign, is_word, place, sign, spot, word}
use Rattle.profiles.specs.declared.profile.Profile.TheVariants.{First, Second}
use Rattle.propagation_points.specs.declared.side.Side.TheVariants.{Absent, Declared}
use Rattle.propagation_points.specs.Points.{Point}
use Rattle.instantiator.specs.Components.{preorder}
use Rattle.instantiator.specs.Effectives.{effective_of}
use Rattle.instantiator.specs.Whole.{instance_of}
use Rattle.instantiator.proofs.Sample.{connection_of, end_at, id, spot as sample_spot, two_devices}
use Rattle.propagation_links.specs.declared.link.Link.{Link}
use Rattle.propagation_links.specs.Links.{links_of}
use Rattle.propagation_links.specs.Refused.{links_refusal}
use Rattle.propagation_links.proofs.Sample.{binding_section, bound_instance, bound_points, clause_of, instance_with, link, path_of, point_of, points}

-- ---- two devices that are connected both ways

abbrev device_points : List (List Point)
device_points = [] ∷ (point_of (codes "i") (Declared (0 ∷ [])) Absent ∷ point_of (codes "o") Absent (Declared (0 ∷ [])) ∷ []) ∷ []

both_ways : links_of First (instance_of two_devices (id 2)) device_points ≡ link 1 1 true 2 0 false ∷ link 2 1 true 1 0 false ∷ []
unfolding preorder effective_of chain_from
both_ways = refl

both_ways_accepted : links_refusal First (instance_of two_devices (id 2)) device_points ≡ None
unfolding preorder effective_of chain_from
both_ways_accepted = refl

-- ---- connections of every kind

abbrev connection : ConnectionKind → List (List ℕ) → Bool → List (List ℕ) → Connection
connection kind from both to = connection_of (codes "c") kind (end_at 20 from) (end_at 30 to) both

abbrev links_with : Connection → List Link
links_with c = links_of First (instance_with (c ∷ []) (clause_of [])) points

abbrev refusal_with : Connection → Option Refusal
refusal_with c = links_refusal First (instance_with (c ∷ []) (clause_of [])) points

-- from the own point in, down to the device
down : links_with (connection Plain (codes "p" ∷ []) false (codes "d" ∷ codes "i" ∷ [])) ≡ link 0 0 false 1 0 false ∷ []
unfolding preorder effective_of chain_from
down = refl

-- from the device up to the own point out
up : links_with (connection Plain (codes "d" ∷ codes "o" ∷ []) false (codes "r" ∷ [])) ≡ link 1 1 true 0 1 true ∷ []
unfolding preorder effective_of chain_from
up = refl

-- from the own point in to the own point out
through : links_with (connection Plain (codes "p" ∷ []) false (codes "r" ∷ [])) ≡ link 0 0 false 0 1 true ∷ []
unfolding preorder effective_of chain_from
through = refl

-- from a subcomponent to another, and both ways; a side that is not there makes no link
across : links_with (connection Plain (codes "d" ∷ codes "o" ∷ []) true (codes "w" ∷ codes "x" ∷ [])) ≡ link 1 1 true 2 0 false ∷ []
unfolding preorder effective_of chain_from
across = refl

-- an access connection goes both ways, and a subcomponent alone is its point `access`
accesses : links_with (connection Access (codes "d" ∷ []) false (codes "w" ∷ codes "x" ∷ [])) ≡ link 1 2 true 2 0 false ∷ link 2 0 true 1 2 false ∷ []
unfolding preorder effective_of chain_from
accesses = refl

-- a subcomponent without a point `access` makes no link, and is no fault
no_access : links_with (connection Access (codes "w" ∷ []) false (codes "d" ∷ codes "i" ∷ [])) ≡ []
unfolding preorder effective_of chain_from
no_access = refl

no_access_accepted : refusal_with (connection Access (codes "w" ∷ []) false (codes "d" ∷ codes "i" ∷ [])) ≡ None
unfolding preorder effective_of chain_from
no_access_accepted = refl

-- a connection with an end at a processor makes no link, and its ends are no fault
apart : links_with (connection Plain (codes "d" ∷ codes "o" ∷ []) true (codes "processor" ∷ codes "z" ∷ [])) ≡ []
unfolding preorder effective_of chain_from
apart = refl

apart_accepted : refusal_with (connection Plain (codes "z" ∷ []) true (codes "self" ∷ codes "z" ∷ [])) ≡ None
unfolding preorder effective_of chain_from
apart_accepted = refl

-- ---- refusals

-- a subcomponent alone is N14 but in an access connection
alone : refusal_with (connection Plain (codes "p" ∷ []) false (codes "d" ∷ [])) ≡ Some (refusal UnknownEnd (At 0 30))
unfolding preorder effective_of chain_from
alone = refl

-- the least place of both ends
both_unknown : refusal_with (connection Plain (codes "d" ∷ codes "z" ∷ []) false (codes "z" ∷ [])) ≡ Some (refusal UnknownEnd (At 0 20))
unfolding preorder effective_of chain_from
both_unknown = refl

-- a word is no fault where the names before it are those of a subcomponent
a_word : refusal_with (connection Plain (codes "w" ∷ codes "bindings" ∷ []) false (codes "memory" ∷ [])) ≡ None
unfolding preorder effective_of chain_from
a_word = refl

word_of_none : refusal_with (connection Plain (codes "z" ∷ codes "bindings" ∷ []) false (codes "memory" ∷ [])) ≡ Some (refusal UnknownEnd (At 0 20))
unfolding preorder effective_of chain_from
word_of_none = refl

-- three names are P3, also where the other end begins with a word that is apart
three_names : refusal_with (connection Plain (codes "processor" ∷ []) false (codes "w" ∷ codes "d" ∷ codes "i" ∷ [])) ≡ Some (refusal FeatureGroup (At 0 30))
unfolding preorder effective_of chain_from
three_names = refl

-- ---- user paths

abbrev path_links_with : UserPath → List Link
path_links_with its = links_of First (instance_with [] (clause_of (its ∷ []))) points

-- a user's path goes down as far as its names, and up to a user's point
deep : path_links_with (path_of 40 (codes "k") (codes "w" ∷ codes "d" ∷ codes "o" ∷ []) (codes "u" ∷ [])) ≡ link 3 1 true 0 2 true ∷ []
unfolding preorder effective_of chain_from
deep = refl

from_user_point : path_links_with (path_of 40 (codes "k") (codes "u" ∷ []) (codes "w" ∷ codes "d" ∷ codes "i" ∷ [])) ≡ link 0 2 false 3 0 false ∷ []
unfolding preorder effective_of chain_from
from_user_point = refl

unknown_path : links_refusal First (instance_with [] (clause_of (path_of 40 (codes "k") (codes "w" ∷ codes "d" ∷ []) (codes "u" ∷ []) ∷ []))) points ≡ Some (refusal UnknownEnd (At 0 40))
unfolding preorder effective_of chain_from
unknown_path = refl

-- P9 at a block of connection errors
connection_error : links_refusal First (instance_with [] (record (clause_of []) { connection_errors = sample_spot 50 ∷ [] })) points ≡ Some (refusal ConnectionError (At 0 50))
unfolding preorder effective_of chain_from
connection_error = refl

-- ---- bindings

abbrev d : List (List ℕ)
d = codes "d" ∷ []

abbrev w_d : List (List ℕ)
w_d = codes "w" ∷ codes "d" ∷ []

-- a component and its processor, both ways
inner_alone : links_of First (bound_instance [] (binding_section d d ∷ [])) bound_points ≡ link 3 0 true 3 1 false ∷ link 3 1 true 3 0 false ∷ []
unfolding preorder effective_of chain_from binding binding_name binding_word other_word abstract_word binding_end references reference path dotted_name targets binding_targets applied_targets word sign identifier is_word is_sign is_identifier is_even opens closes is_kind spot place
inner_alone = refl

-- the outermost component that binds it counts
outer_counts : links_of First (bound_instance (binding_section d w_d ∷ []) (binding_section d d ∷ [])) bound_points ≡ link 1 0 true 3 1 false ∷ link 3 1 true 1 0 false ∷ []
unfolding preorder effective_of chain_from binding binding_name binding_word other_word abstract_word binding_end references reference path dotted_name targets binding_targets applied_targets word sign identifier is_word is_sign is_identifier is_even opens closes is_kind spot place
outer_counts = refl

-- and there the last, also where it leads nowhere
last_counts : links_of First (bound_instance (binding_section d w_d ∷ binding_section (codes "z" ∷ []) w_d ∷ []) (binding_section d d ∷ [])) bound_points ≡ []
unfolding preorder effective_of chain_from binding binding_name binding_word other_word abstract_word binding_end references reference path dotted_name targets binding_targets applied_targets word sign identifier is_word is_sign is_identifier is_even opens closes is_kind spot place
last_counts = refl
