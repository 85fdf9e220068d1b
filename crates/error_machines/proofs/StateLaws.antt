-- A state more, and its marks.
use Rattle.std.proofs.Common.{ℕ, ◌+◌, ◌≡◌, ◌<◌, ◌≤◌, Bool, List, [], ◌∷◌, ◌++◌, length, replicate, take, Option, Some, None, map, sym, ap, ◌∙◌, arith}
use Rattle.std.proofs.lemmas.List.{length-map, length-take-le, replicate_more}
use Rattle.std.proofs.lemmas.Simd.{splat_is_map}
use Rattle.aadl_syntax.specs.declared.error_model.StateDecl.{StateDecl}
use Rattle.propagation_points.specs.States.{Sort, keep_sort, variant_types}
use Rattle.error_machines.specs.declared.states.States.{States}
use Rattle.error_machines.specs.States.{keep_at}

pub state-kept : (states : States) (decl : StateDecl) (place : Option ℕ) (own types : Option (List ℕ)) (sorts : List Sort) (initial always : List Bool)
    → place ≡ None → own ≡ types → sorts ≡ keep_sort states.sorts decl.name own → initial ≡ states.initial ++ decl.initial ∷ []
    → always ≡ states.always ++ map (λ type. decl.initial) (variant_types own)
    → ◌≡◌ {A = States} (record { sorts = sorts; initial = initial; always = always }) (keep_at place states decl types)
state-kept states decl place own types sorts initial always none same is-sorts is-initial is-always =
    let made : List Sort → List Bool → List Bool → States = λ x y z. record { sorts = x; initial = y; always = z } in
    ap (λ x. made x initial always) is-sorts
    ∙ ap (λ y. made (keep_sort states.sorts decl.name own) y always) is-initial
    ∙ ap (made (keep_sort states.sorts decl.name own) (states.initial ++ decl.initial ∷ [])) is-always
    ∙ ap (keep_at None states decl) same
    ∙ ap (λ p. keep_at p states decl types) (sym none)

-- the same mark for each of the first types
marks-so-far : (types : List ℕ) (n : ℕ) (mark : Bool) → n ≤ length types → replicate n mark ≡ map (λ type. mark) (map Some (take n types))
marks-so-far types n mark within = splat_is_map (map Some (take n types)) n mark (length-map (take n types) Some ∙ length-take-le n types within)

pub marks-more : (types : List ℕ) (n : ℕ) (mark : Bool) → n < length types
    → map (λ type. mark) (map Some (take n types)) ++ mark ∷ [] ≡ map (λ type. mark) (map Some (take (n + 1) types))
marks-more types n mark within =
    ap (λ marks. marks ++ mark ∷ []) (sym (marks-so-far types n mark (omega arith))) ∙ replicate_more n mark ∙ marks-so-far types (n + 1) mark (omega arith)
