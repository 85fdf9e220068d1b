-- Small examples of the definitions, each proved by computing it.
use Rattle.std.proofs.Common.{ℕ, ◌≡◌, List, [], ◌∷◌, codes, Option, Some, None, refl}
use Rattle.plain_values.specs.declared.refusal.Code.TheVariants.{TooDeep, UnknownClassifier}
use Rattle.plain_values.specs.declared.refusal.Place.TheVariants.{At}
use Rattle.package_index.specs.declared.id.ClassifierId.{ClassifierId}
use Rattle.plain_values.specs.Refusal.{refusal}
use Rattle.component_extension.specs.Chain.{chain_from}
use Rattle.instantiator.specs.declared.path.Component.{Component}
use Rattle.instantiator.specs.Components.{component_at, component_below, components_of, preorder}
use Rattle.instantiator.specs.Effectives.{effective_of}
use Rattle.instantiator.specs.Refused.{instance_refusal}
use Rattle.instantiator.specs.Whole.{kinds_of}
use Rattle.instantiator.proofs.Sample.{endless, id, name_at, two_devices, two_devices_with}

abbrev component : List (List ℕ) → Option ClassifierId → Component
component path classifier = record { path = path; classifier = classifier }

-- ---- components

-- the root, and two devices of one classifier
abbrev of_s_i : List Component
of_s_i = component [] (Some (id 2)) ∷ component (codes "a" ∷ []) (Some (id 0)) ∷ component (codes "b" ∷ []) (Some (id 0)) ∷ []

components_of_s_i : components_of two_devices (id 2) ≡ of_s_i
unfolding preorder effective_of chain_from
components_of_s_i = refl

accepted : instance_refusal two_devices (id 2) ≡ None
unfolding preorder effective_of chain_from
accepted = refl

-- the second device is refined to another classifier, and keeps its place
abbrev of_s_j : List Component
of_s_j = component [] (Some (id 4)) ∷ component (codes "a" ∷ []) (Some (id 0)) ∷ component (codes "b" ∷ []) (Some (id 3)) ∷ []

components_of_s_j : components_of two_devices (id 4) ≡ of_s_j
unfolding preorder effective_of chain_from
components_of_s_j = refl

refined_accepted : instance_refusal two_devices (id 4) ≡ None
unfolding preorder effective_of chain_from
refined_accepted = refl

-- a type is one component
components_of_u : components_of two_devices (id 0) ≡ component [] (Some (id 0)) ∷ []
unfolding preorder effective_of chain_from
components_of_u = refl

-- a subcomponent without classifier
components_without : components_of (two_devices_with None) (id 2) ≡ component [] (Some (id 2)) ∷ component (codes "a" ∷ []) (Some (id 0)) ∷ component (codes "b" ∷ []) None ∷ []
unfolding preorder effective_of chain_from
components_without = refl

-- ---- kinds, and components by their paths

kinds_of_s_i : kinds_of of_s_i ≡ id 2 ∷ id 0 ∷ []
kinds_of_s_i = refl

kinds_of_s_j : kinds_of of_s_j ≡ id 4 ∷ id 0 ∷ id 3 ∷ []
kinds_of_s_j = refl

there : component_at of_s_i (codes "b" ∷ []) ≡ Some 2
there = refl

below_root : component_below of_s_i 0 (codes "b" ∷ []) ≡ Some 2
below_root = refl

not_below : component_below of_s_i 1 (codes "b" ∷ []) ≡ None
not_below = refl

itself : component_below of_s_i 1 [] ≡ Some 1
itself = refl

-- ---- refusals

-- b: device w, of which there is none: N3 at the name w
unknown : instance_refusal (two_devices_with (Some (name_at 24 (codes "w") None))) (id 2) ≡ Some (refusal UnknownClassifier (At 0 24))
unfolding preorder effective_of chain_from
unknown = refl

-- a system that holds itself comes to a path of 33 names: M5 at the name of its subcomponent
too_deep : instance_refusal endless (id 1) ≡ Some (record { code = TooDeep; place = At 0 7; limit = 32 })
unfolding preorder effective_of chain_from
too_deep = refl
