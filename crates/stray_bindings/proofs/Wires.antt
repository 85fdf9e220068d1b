-- The connections of an instance, with those of one component more, and sets of them with one connection more.
use Rattle.std.proofs.Common.{◌≡◌, ◌<◌, ◌+◌, ℕ, Bool, true, false, ◌||◌, cond, List, [], ◌∷◌, ◌++◌, length, take, get_or, None, refl, sym, ap, ◌∙◌}
use Rattle.std.specs.List.{list_any}
use Rattle.std.proofs.lemmas.List.{get_or_default}
use Rattle.std.proofs.lemmas.List.Folds.{list_any-append}
use Rattle.plain_values.specs.Numbered.{numbered_from}
use Rattle.package_index.proofs.Loops.{numbered-more}
use Rattle.instantiator.specs.declared.path.Component.{Component}
use Rattle.instantiator.specs.Whole.{Instance, effective_in}
use Rattle.stray_bindings.specs.Stray.{Wire, is_wire, is_wire_in, stray_in, stray_of}
use Rattle.stray_bindings.specs.declared.stray.StrayBinding.{StrayBinding}
use Rattle.profiles.specs.declared.profile.Profile.{Profile}

-- a test beside one that fails
or-none : (b : Bool) → (b || false) ≡ b
or-none true = refl
or-none false = refl

-- a key that is put into a set
pub one-more : (b had : Bool) → cond b true had ≡ (had || b)
one-more true true = refl
one-more true false = refl
one-more false true = refl
one-more false false = refl

pub or-assoc : (a b c : Bool) → ((a || b) || c) ≡ (a || (b || c))
or-assoc true b c = refl
or-assoc false b c = refl

-- the connections with those of one component more
pub wires-more : (instance : Instance) (key : Wire) (i : ℕ) → i < length instance.components → (before after : Bool)
    → before ≡ list_any (λ found. found) (numbered_from (is_wire_in key instance) 0 (take i instance.components))
    → after ≡ (before || list_any (is_wire key i) (effective_in instance i).members.connections)
    → after ≡ list_any (λ found. found) (numbered_from (is_wire_in key instance) 0 (take (i + 1) instance.components))
wires-more instance key i within before after had adds =
    let all = instance.components in
    let none : Component = record { path = []; classifier = None } in
    let component : Component = get_or all i none in
    let one : Bool = list_any (is_wire key i) (effective_in instance i).members.connections in
    adds ∙ ap (λ b. b || one) had ∙ ap (λ b. list_any (λ found. found) (numbered_from (is_wire_in key instance) 0 (take i all)) || b) (sym (or-none one))
    ∙ sym (ap (list_any (λ found. found)) (numbered-more (is_wire_in key instance) all i component within (get_or_default all i none component within))
    ∙ list_any-append (λ found. found) (numbered_from (is_wire_in key instance) 0 (take i all)) (one ∷ []))

-- what is stray, with that of one component more
pub strays-more : (profile : Profile) (instance : Instance) (i : ℕ) → i < length instance.components → (before after : List StrayBinding)
    → before ≡ numbered_from (stray_of profile instance) 0 (take i instance.components)
    → after ≡ before ++ stray_in profile instance i (effective_in instance i)
    → after ≡ numbered_from (stray_of profile instance) 0 (take (i + 1) instance.components)
strays-more profile instance i within before after had adds =
    let all = instance.components in
    let none : Component = record { path = []; classifier = None } in
    let component : Component = get_or all i none in
    adds ∙ ap (λ front. front ++ stray_in profile instance i (effective_in instance i)) had
    ∙ sym (numbered-more (stray_of profile instance) all i component within (get_or_default all i none component within))
